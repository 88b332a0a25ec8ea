-- For any cutting of the input into blocks the steps find exactly its lines: what is held is always the start of the line that is still open, up to 256 bytes, and those are enough for the line's call.
use Prim.Native.Nat.{ℕ, zero, suc, ◌+◌, ◌-◌, ◌≤◌, ◌<◌, min}
use mathlib.Core.Path.{◌≡◌, refl, sym, ap, ◌∙◌}
use mathlib.Core.Bool.{◌&&◌}
use mathlib.Core.List.{List, [], ◌∷◌, ◌++◌, append_assoc, append-nil, map, map-append, flatten}
use native.Mathlib.Omega.{arith}
use native.Mathlib.Decide.{dec_lt}
use borrow.Author.Tests.{lt-ltb, le-ltb, lt-leb, eq-eqb, ne_eqb}
use lib.Dec.{ltb, eqb}
use lib.ListN.{length, take, drop, length-append, length-take, length-drop, drop_of_length-le}
use lib.Seq.{length-paste, take-paste, take_all, take-append-le, take-append-add, drop-drop}
use Rattle.terms.specs.Words.{pick}
use Rattle.terms.proofs.Tests.{either}
use Rattle.lines.specs.declared.Line.{Line}
use Rattle.lines.specs.Text.{before}
use Rattle.lines.specs.Calls.{line_of}
use Rattle.lines.specs.Input.{line_end, lines_of, room_for, held_with, line_bytes, step_of, held_after, last_of}
use Rattle.lines.specs.Reading.{Held, found, lines_in, held_behind, lines_through}
use Rattle.lines.proofs.Cutting.{full, left, tail, full_append, left_append, cut_line, cut_rest, all_lines}

-- 256 bytes of a line are enough for its call
line_short : (l : List ℕ) → line_of (take 256 l) ≡ line_of l
unfolding line_of
line_short l = go (dec_lt (length l) 256)
  where
    go : Dec (length l < 256) → line_of (take 256 l) ≡ line_of l
    go (yes h) = ap line_of (take_all 256 l (omega arith))
    go (no h) =
        let a = lt-leb (length l) 255 (omega arith) in
        let b = lt-leb (length (take 256 l)) 255 (rw length-take (omega arith)) in
        simp (a, b)

take_within : (q : List ℕ) (n : ℕ) → take (min (length q) n) q ≡ take n q
take_within q n = go (dec_lt n (length q))
  where
    go : Dec (n < length q) → take (min (length q) n) q ≡ take n q
    go (yes h) = let e : min (length q) n ≡ n = omega arith in rw e
    go (no h) =
        let e : min (length q) n ≡ length q = omega arith in
        rw e (take_all (length q) q (omega arith) ∙ sym (take_all n q (omega arith)))

-- what is held of the line p that is still open
record Holds (p : List ℕ) (h : Held) : Type 0 where
  size : length h.bytes ≡ 256
  count : h.count ≡ min (length p) 256
  bytes : take h.count h.bytes ≡ take 256 p

abbrev gathered : Held → List ℕ → Held
gathered h q = record { bytes = held_with h.bytes h.count q; count = h.count + room_for h.bytes h.count q }

take_join : (p q : List ℕ) → take 256 p ++ take (256 - length p) q ≡ take 256 (p ++ q)
take_join p q = go (dec_lt (length p) 256)
  where
    go : Dec (length p < 256) → take 256 p ++ take (256 - length p) q ≡ take 256 (p ++ q)
    go (yes h) =
        let e : 256 ≡ length p + (256 - length p) = omega arith in
        ap (λ (l : List ℕ). l ++ take (256 - length p) q) (take_all 256 p (omega arith))
        ∙ sym (ap (λ (n : ℕ). take n (p ++ q)) e ∙ take-append-add p q (256 - length p))
    go (no h) =
        let e : 256 - length p ≡ 0 = omega arith in
        rw e (append-nil (take 256 p) ∙ sym (take-append-le 256 p q (omega arith)))

room_left : (p q : List ℕ) (h : Held) → Holds p h → take (room_for h.bytes h.count q) q ≡ take (256 - length p) q
room_left p q h w =
    let e : length h.bytes - h.count ≡ 256 - length p = omega arith in
    take_within q (length h.bytes - h.count) ∙ rw e

holds_more : (p q : List ℕ) (h : Held) → Holds p h → Holds (p ++ q) (gathered h q)
unfolding held_with
holds_more p q h w =
    let k = room_for h.bytes h.count q in
    record {
      size = length-paste h.bytes h.count q k (omega arith) (omega arith) ∙ w.size;
      count = rw length-append (omega arith);
      bytes =
          take-paste h.bytes h.count q k (omega arith) (omega arith) ∙ ap (λ (l : List ℕ). l ++ take k q) w.bytes
          ∙ ap (λ (l : List ℕ). take 256 p ++ l) (room_left p q h w) ∙ take_join p q;
    }

no_bytes : (p : List ℕ) → length p ≡ 0 → p ≡ []
no_bytes [] e = refl
no_bytes (c ∷ p) e = absurd (omega arith)

-- a line that ends behind what is held of it
line_whole : (p q : List ℕ) (h : Held) → Holds p h → line_of (line_bytes h.bytes h.count q) ≡ line_of (p ++ q)
unfolding line_bytes
line_whole p q h w = go (dec_lt 0 h.count)
  where
    go : Dec (0 < h.count)
        → line_of (pick (eqb h.count 0) q (take (h.count + room_for h.bytes h.count q) (held_with h.bytes h.count q)))
        ≡ line_of (p ++ q)
    go (yes c) = simp (ne_eqb h.count 0 (λ e. omega arith)) (ap line_of (holds_more p q h w).bytes ∙ line_short (p ++ q))
    go (no c) =
        let e : h.count ≡ 0 = omega arith in
        let n : length p ≡ 0 = omega (arith, w.count) in
        simp (eq-eqb h.count 0 e, no_bytes p n)

-- the buffer behind a line
abbrev emptied : List ℕ → ℕ → Held → Held
emptied block from h = record { bytes = held_after block from h.bytes h.count; count = 0 }

module _ (block : List ℕ) (from : ℕ) (p : List ℕ) (h : Held) (w : Holds p h) where
  abbrev rest : List ℕ
  rest = drop from block

  abbrev end : ℕ
  end = from + before line_end rest

  abbrev part : List ℕ
  part = take (before line_end rest) rest

  after_size : length (held_after block from h.bytes h.count) ≡ 256
  unfolding held_after
  after_size =
      either (λ (l : List ℕ). length l ≡ 256) (ltb end (length block) && eqb h.count 0) w.size (holds_more p part h w).size

  -- a step that gets a line
  step_ends : (k : ℕ) → from < length block → end < length block
      → (lines_in (suc k) block from h
      ≡ line_of (p ++ part) ∷ lines_in k block (end + 1) (emptied block from h))
      × (held_behind (suc k) block from h
      ≡ held_behind k block (end + 1) (emptied block from h))
  unfolding lines_in held_behind step_of
  step_ends k f e =
      let t = lt-ltb from (length block) f in
      let u = lt-ltb end (length block) e in
      (simp (t, u) (ap (λ (l : Line). l ∷ lines_in k block (end + 1) (emptied block from h)) (line_whole p part h w)), simp (t, u))

  -- a step that gets none
  step_on : (k : ℕ) → from < length block → length block ≤ end
      → (lines_in (suc k) block from h ≡ lines_in k block end (gathered h part))
      × (held_behind (suc k) block from h ≡ held_behind k block end (gathered h part))
  unfolding lines_in held_behind step_of held_after
  step_on k f e =
      let t = lt-ltb from (length block) f in
      let u = le-ltb end (length block) e in
      (simp (t, u), simp (t, u))

-- behind the block nothing is found
out : (k : ℕ) (block : List ℕ) (from : ℕ) (h : Held) → length block ≤ from
    → (lines_in k block from h ≡ []) × (held_behind k block from h ≡ h)
unfolding lines_in held_behind
out zero block from h l = (refl, refl)
out (suc k) block from h l = let t = le-ltb from (length block) l in (simp t, simp t)

full_none : (p s : List ℕ) → s ≡ [] → (map line_of (full p s) ≡ []) × (left p s ≡ p)
unfolding full left
full_none p s e = rw e (refl, refl)

abbrev Through : ℕ → List ℕ → ℕ → List ℕ → Held → Type 0
Through k block from p h =
    (lines_in k block from h ≡ map line_of (full p (drop from block))) × Holds (left p (drop from block)) (held_behind k block from h)

through_out : (k : ℕ) (block : List ℕ) (from : ℕ) (p : List ℕ) (h : Held) → length block ≤ from → Holds p h → Through k block from p h
through_out k block from p h l w =
    let o = out k block from h l in
    let n = full_none p (drop from block) (drop_of_length-le block l) in
    (o.0 ∙ sym n.0, rw (o.1, n.1) w)

through_ends : (k : ℕ) (block : List ℕ) (from : ℕ) (p : List ℕ) (h : Held) → Holds p h → from < length block
    → from + before line_end (drop from block) < length block
    → Through k block (from + before line_end (drop from block) + 1) [] (emptied block from h)
    → Through (suc k) block from p h
through_ends k block from p h w f e ih =
    let d = drop from block in
    let s = step_ends block from p h w k f e in
    let c = cut_line d p (rw length-drop (omega arith)) in
    let m : from + suc (before line_end d) ≡ from + before line_end d + 1 = omega arith in
    let n : drop (suc (before line_end d)) d ≡ drop (from + before line_end d + 1) block = drop-drop (suc (before line_end d)) from block ∙ rw m in (
      s.0 ∙ ap (λ (l : List Line). line_of (p ++ take (before line_end d) d) ∷ l) ih.0 ∙ sym (ap (map line_of) c.0 ∙ rw n),
      rw (s.1, c.1, n) ih.1,
    )

through_on : (k : ℕ) (block : List ℕ) (from : ℕ) (p : List ℕ) (h : Held) → Holds p h → from < length block
    → length block ≤ from + before line_end (drop from block) → Through (suc k) block from p h
through_on k block from p h w f e =
    let d = drop from block in
    let s = step_on block from p h w k f e in
    let l : length d ≤ before line_end d = rw length-drop (omega arith) in
    let c = cut_rest d p l in
    let q = take_all (before line_end d) d l in
    let r : left p d ≡ p ++ take (before line_end d) d = c.1 ∙ rw q in
    let o = out k block (from + before line_end d) (gathered h (take (before line_end d) d)) e in
    (s.0 ∙ o.0 ∙ sym (ap (map line_of) c.0), rw (s.1, o.1, r) (holds_more p (take (before line_end d) d) h w))

-- one block
through : (k : ℕ) (block : List ℕ) (from : ℕ) (p : List ℕ) (h : Held) → length block - from ≤ k → Holds p h → Through k block from p h
through zero block from p h l w = through_out zero block from p h (omega arith) w
through (suc k) block from p h l w =
    go (dec_lt from (length block)) (dec_lt (from + before line_end (drop from block)) (length block))
    (through k block (from + before line_end (drop from block) + 1) [] (emptied block from h))
  where
    go : Dec (from < length block) → Dec (from + before line_end (drop from block) < length block)
        → (length block - (from + before line_end (drop from block) + 1) ≤ k
        → Holds [] (emptied block from h)
        → Through k block (from + before line_end (drop from block) + 1) [] (emptied block from h))
        → Through (suc k) block from p h
    go (no f) d ih = through_out (suc k) block from p h (omega arith) w
    go (yes f) (yes e) ih =
        through_ends k block from p h w f e
        (ih (omega arith) (record { size = after_size block from p h w; count = refl; bytes = refl }))
    go (yes f) (no e) ih = through_on k block from p h w f (omega arith)

-- at the end of the input
last_line : (p : List ℕ) (h : Held) → Holds p h → found (last_of h.bytes h.count) [] ≡ map line_of (tail p)
unfolding last_of
last_line [] h w = simp (le-ltb 0 h.count (omega (arith, w.count)))
last_line (c ∷ p) h w =
    let t = lt-ltb 0 h.count (omega (arith, w.count)) in
    simp t (ap (λ (l : Line). l ∷ []) (ap line_of w.bytes ∙ line_short (c ∷ p)))

through_all : (blocks : List (List ℕ)) (p : List ℕ) (h : Held) → Holds p h
    → lines_through blocks h ≡ map line_of (full p (flatten blocks) ++ tail (left p (flatten blocks)))
unfolding lines_through flatten full left
through_all [] p h w = last_line p h w
through_all (b ∷ bs) p h w =
    let s = through (length b) b 0 p h (omega arith) w in
    let i = through_all bs (left p b) (held_behind (length b) b 0 h) s.1 in
    let r = flatten bs in
    let y = full (left p b) r in
    let z = tail (left (left p b) r) in
    rw (full_append b r p, left_append b r p, append_assoc (full p b) y z, map-append line_of (full p b) (y ++ z), s.0, i)

-- the lines of the input, whatever it is cut into, and whatever stood in the buffer
pub every_cutting : (blocks : List (List ℕ)) (buffer : List ℕ) → length buffer ≡ 256
    → lines_through blocks (record { bytes = buffer; count = 0 }) ≡ map line_of (lines_of (flatten blocks))
every_cutting blocks buffer e =
    through_all blocks [] (record { bytes = buffer; count = 0 }) (record { size = e; count = refl; bytes = refl })
    ∙ ap (map line_of) (all_lines (flatten blocks))
