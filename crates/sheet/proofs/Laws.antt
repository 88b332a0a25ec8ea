-- The lengths of what is written, and the slots' fields one behind the other.
use Prim.Native.Nat.{ℕ, zero, suc, ◌+◌, ◌-◌, ◌*◌, ◌<◌, ◌≤◌}
use mathlib.Core.Path.{◌≡◌, refl, sym, ap, ◌∙◌}
use mathlib.Core.Bool.{Bool, true, false}
use mathlib.Core.List.{List, [], ◌∷◌, ◌++◌, append-nil, append_assoc}
use lib.ListN.{length, take, length-append, take-append-drop}
use lib.Seq.{take_all}
use native.Mathlib.Omega.{arith}
use native.Mathlib.Numerals.{add-one}
use Rattle.std.specs.List.{count_by}
use Rattle.std.proofs.lemmas.List.Sums.{count_by_more_yes, count_by_more_no}
use Rattle.terms.specs.Words.{pick}
use Rattle.timing.specs.declared.Figures.{Figures}
use Rattle.timing.specs.Timing.{present, hold}
use Rattle.admission.specs.Admission.{slots, slot_of}
use Rattle.fields.specs.Numbers.{bytes_of, placed}
use Rattle.fields.specs.Fields.{field_of, head_of}
use Rattle.fields.specs.Form.{servers_of, sheet_of}
use Rattle.fields.proofs.Numbers.{bytes_length}
use Rattle.fields.proofs.Heads.{field_length}
use Rattle.fields.proofs.Forms.{servers_append}
use Rattle.fields.proofs.Placing.{placed_in, placed_join, placed_field}
use Rattle.sheet.specs.Sheet.{holds_of, body_of, bodies_of, encode}
use Rattle.sheet.specs.Steps.{slot_bytes}

pub holds_length : (f : Figures) (n : ℕ) → length (holds_of f n) ≡ 4 * n
unfolding holds_of
holds_length f zero = refl
holds_length f (suc n) =
    omega (arith, length-append (holds_of f n) (bytes_of 4 (hold f n).0), bytes_length 4 (hold f n).0, holds_length f n)

pub body_length : (f : Figures) → length (body_of f) ≡ 40
unfolding body_of
body_length f =
    let p = bytes_of 4 f.period.0 in
    let q = bytes_of 4 f.budget.0 in
    omega (
      arith,
      length-append p (q ++ holds_of f 8),
      length-append q (holds_of f 8),
      bytes_length 4 f.period.0,
      bytes_length 4 f.budget.0,
      holds_length f 8,
    )

-- a slot in the table adds its field, and another nothing
pub slot_in : (f : Figures) → present f ≡ true → slot_bytes f ≡ field_of 2 (body_of f)
unfolding slot_bytes
slot_in f h = simp h

pub slot_out : (f : Figures) → present f ≡ false → slot_bytes f ≡ []
unfolding slot_bytes
slot_out f h = simp h

pub slot_length : (f : Figures) → present f ≡ true → length (slot_bytes f) ≡ 43
slot_length f h = ap length (slot_in f h) ∙ field_length 2 (body_of f) ∙ ap (λ k. k + 3) (body_length f)

-- what a slot adds to the bodies and to the servers' fields
slot_of_lem : (f : Figures) (p : Bool) → servers_of 2 (pick p (body_of f ∷ []) []) ≡ pick p (field_of 2 (body_of f)) []
unfolding servers_of
slot_of_lem f true = append-nil (field_of 2 (body_of f))
slot_of_lem f false = refl

module _ (t : List Figures) where
  pub servers_next : (n : ℕ) → servers_of 2 (bodies_of t (n + 1)) ≡ servers_of 2 (bodies_of t n) ++ slot_bytes (slot_of t n)
  unfolding bodies_of slot_bytes
  servers_next n =
      let f = slot_of t n in
      ap (λ k. servers_of 2 (bodies_of t k)) (add-one n)
      ∙ servers_append 2 (bodies_of t n) (pick (present f) (body_of f ∷ []) [])
      ∙ ap (λ l. servers_of 2 (bodies_of t n) ++ l) (slot_of_lem f (present f))

  pub servers_none : servers_of 2 (bodies_of t 0) ≡ []
  unfolding bodies_of servers_of
  servers_none = refl

  pub servers_longer : (n : ℕ) → length (servers_of 2 (bodies_of t (n + 1))) ≡ length (servers_of 2 (bodies_of t n)) + length (slot_bytes (slot_of t n))
  servers_longer n = ap length (servers_next n) ∙ length-append (servers_of 2 (bodies_of t n)) (slot_bytes (slot_of t n))

  -- the slots up to n take no more than those up to n + k
  pub servers_within : (n k : ℕ) → length (servers_of 2 (bodies_of t n)) ≤ length (servers_of 2 (bodies_of t (n + k)))
  servers_within n zero = let e : n + 0 ≡ n = omega arith in rw e (omega arith)
  servers_within n (suc k) =
      let e : n + suc k ≡ n + k + 1 = omega arith in
      rw e (omega (arith, servers_within n k, servers_longer (n + k)))

  pub servers_room : (i : ℕ) → i < slots
      → length (servers_of 2 (bodies_of t i)) + length (slot_bytes (slot_of t i)) ≤ length (servers_of 2 (bodies_of t slots))
  servers_room i h =
      let e : i + 1 + (15 - i) ≡ slots = omega arith in
      omega (arith, servers_longer i, rw e at (servers_within (i + 1) (15 - i)))

  -- each server's field takes 43 bytes
  count_of : (f : Figures) (p : Bool) → length (pick p (field_of 2 (body_of f)) []) ≡ 43 * length (pick p (body_of f ∷ []) [])
  count_of f true = field_length 2 (body_of f) ∙ ap (λ k. k + 3) (body_length f)
  count_of f false = refl

  pub servers_width : (n : ℕ) → length (servers_of 2 (bodies_of t n)) ≡ 43 * length (bodies_of t n)
  unfolding bodies_of slot_bytes
  servers_width zero = ap length servers_none
  servers_width (suc n) =
      let f = slot_of t n in
      let same = ap (λ k. length (servers_of 2 (bodies_of t k))) (add-one n) in
      let slot : length (slot_bytes f) ≡ 43 * length (pick (present f) (body_of f ∷ []) []) = count_of f (present f) in
      let more : length (bodies_of t (suc n)) ≡ length (bodies_of t n) + length (pick (present f) (body_of f ∷ []) []) =
      length-append (bodies_of t n) (pick (present f) (body_of f ∷ []) []) in
      omega (arith, servers_longer n, servers_width n)

  -- the servers counted, slot by slot
  pub count_next : (n : ℕ) → 43 * length (bodies_of t (n + 1)) ≡ 43 * length (bodies_of t n) + length (slot_bytes (slot_of t n))
  count_next n = omega (arith, servers_longer n, servers_width n, servers_width (n + 1))

  counted : (n : ℕ) → n ≤ length t → count_by (λ f. present f) (take n t) ≡ length (bodies_of t n)
  unfolding bodies_of
  counted zero l = refl
  counted (suc n) l =
      let f = slot_of t n in
      let more = length-append (bodies_of t n) (pick (present f) (body_of f ∷ []) []) in
      ap (λ k. count_by (λ f. present f) (take k t)) (sym (add-one n)) ∙ go (present f) refl (counted n (omega arith)) ∙ sym more
    where
      go : (p : Bool) → present (slot_of t n) ≡ p → count_by (λ f. present f) (take n t) ≡ length (bodies_of t n)
          → count_by (λ f. present f) (take (n + 1) t) ≡ length (bodies_of t n) + length (pick p (body_of (slot_of t n) ∷ []) [])
      go true p before = omega (arith, count_by_more_yes (λ f. present f) t n (slot_of [] n) (omega arith) p)
      go false p before = omega (arith, count_by_more_no (λ f. present f) t n (slot_of [] n) (omega arith) p)

  pub servers_counted : length t ≡ slots → count_by (λ f. present f) t ≡ length (bodies_of t slots)
  servers_counted h = ap (count_by (λ f. present f)) (sym (take_all slots t (omega arith))) ∙ counted slots (omega arith)

  pub encode_length : (frame : ℕ) → length (encode frame t) ≡ 10 + 43 * length (bodies_of t slots)
  unfolding encode sheet_of
  encode_length frame =
      let front = field_of 1 (bytes_of 4 frame) in
      let servers = servers_of 2 (bodies_of t slots) in
      omega (
        arith,
        length-append front (servers ++ field_of 255 []),
        length-append servers (field_of 255 []),
        field_length 1 (bytes_of 4 frame),
        bytes_length 4 frame,
        field_length 255 [],
        servers_width slots,
      )

-- nothing placed moves nothing
pub placed_nothing : (b : List ℕ) (at : ℕ) → at ≤ length b → placed b at [] ≡ b
placed_nothing b at h =
    let e : at + 0 ≡ at = omega arith in
    placed_in b at [] (omega arith) ∙ rw (append-nil (take at b), e) (take-append-drop at b)

-- one hold behind the others
pub holds_on : (b : List ℕ) (at : ℕ) (f : Figures) (r : ℕ) → at + 4 * r + 4 ≤ length b
    → placed (placed b at (holds_of f r)) (at + 4 * r) (bytes_of 4 (hold f r).0) ≡ placed b at (holds_of f (r + 1))
unfolding holds_of
holds_on b at f r h =
    let word = bytes_of 4 (hold f r).0 in
    let four : length word ≡ 4 = bytes_length 4 (hold f r).0 in
    let before : length (holds_of f r) ≡ 4 * r = holds_length f r in
    ap (λ k. placed (placed b at (holds_of f r)) (at + k) word) (sym before)
    ∙ placed_join b at (holds_of f r) word (omega arith)
    ∙ ap (λ k. placed b at (holds_of f k)) (sym (add-one r))

-- a server's body: the period, the budget, and the holds behind them
pub body_on : (b : List ℕ) (at : ℕ) (f : Figures) → at + 40 ≤ length b
    → placed (placed (placed b at (bytes_of 4 f.period.0)) (at + 4) (bytes_of 4 f.budget.0)) (at + 8) (holds_of f 8) ≡ placed b at (body_of f)
unfolding body_of
body_on b at f h =
    let p = bytes_of 4 f.period.0 in
    let q = bytes_of 4 f.budget.0 in
    let hs = holds_of f 8 in
    let p4 : length p ≡ 4 = bytes_length 4 f.period.0 in
    let q4 : length q ≡ 4 = bytes_length 4 f.budget.0 in
    let h32 : length hs ≡ 32 = holds_length f 8 in
    let pq8 : length (p ++ q) ≡ 8 = omega (arith, length-append p q) in
    ap (λ k. placed (placed (placed b at p) (at + k) q) (at + 8) hs) (sym p4)
    ∙ ap (λ l. placed l (at + 8) hs) (placed_join b at p q (omega arith))
    ∙ ap (λ k. placed (placed b at (p ++ q)) (at + k) hs) (sym pq8)
    ∙ placed_join b at (p ++ q) hs (omega arith)
    ∙ ap (placed b at) (append_assoc p q hs)

-- a slot's field: its head and its body
pub slot_on : (b : List ℕ) (at : ℕ) (f : Figures) → present f ≡ true → at + 43 ≤ length b
    → placed (placed b at (head_of 2 40)) (at + 3) (body_of f) ≡ placed b at (slot_bytes f)
slot_on b at f h room =
    let forty = body_length f in
    ap (λ k. placed (placed b at (head_of 2 k)) (at + 3) (body_of f)) (sym forty)
    ∙ placed_field b at 2 (body_of f) (omega arith)
    ∙ ap (placed b at) (sym (slot_in f h))

-- one slot behind the others
pub servers_on : (b : List ℕ) (t : List Figures) (i : ℕ) → i < slots → 7 + length (servers_of 2 (bodies_of t slots)) ≤ length b
    → placed (placed b 7 (servers_of 2 (bodies_of t i))) (7 + length (servers_of 2 (bodies_of t i))) (slot_bytes (slot_of t i))
    ≡ placed b 7 (servers_of 2 (bodies_of t (i + 1)))
servers_on b t i l h =
    placed_join b 7 (servers_of 2 (bodies_of t i)) (slot_bytes (slot_of t i)) (omega (arith, servers_room t i l))
    ∙ ap (placed b 7) (sym (servers_next t i))

-- a field with no body is its head
closing : head_of 255 0 ≡ field_of 255 []
unfolding field_of
closing = sym (append-nil (head_of 255 0))

-- the whole sheet: the frame's field, the servers' fields and the closing field
pub sheet_on : (b : List ℕ) (frame : ℕ) (t : List Figures) → length (encode frame t) ≤ length b
    → placed (placed (placed (placed b 0 (head_of 1 4)) 3 (bytes_of 4 frame)) 7 (servers_of 2 (bodies_of t slots)))
    (7 + length (servers_of 2 (bodies_of t slots))) (head_of 255 0)
    ≡ placed b 0 (encode frame t)
unfolding encode sheet_of
sheet_on b frame t h =
    let w = bytes_of 4 frame in
    let front = field_of 1 w in
    let servers = servers_of 2 (bodies_of t slots) in
    let last = field_of 255 [] in
    let size = length servers in
    let four : length w ≡ 4 = bytes_length 4 frame in
    let seven : 0 + length front ≡ 7 = omega (arith, field_length 1 w) in
    let three : length last ≡ 3 = field_length 255 [] in
    let total = encode_length t frame in
    let width = servers_width t slots in
    let both : 0 + length (front ++ servers) ≡ 7 + size = omega (arith, length-append front servers) in
    let first : placed (placed b 0 (head_of 1 4)) 3 w ≡ placed b 0 front =
    ap (λ k. placed (placed b 0 (head_of 1 k)) 3 w) (sym four) ∙ placed_field b 0 1 w (omega arith) in
    ap (λ l. placed (placed (placed (placed b 0 (head_of 1 4)) 3 w) 7 servers) (7 + size) l) closing
    ∙ ap (λ l. placed (placed l 7 servers) (7 + size) last) first
    ∙ ap (λ k. placed (placed (placed b 0 front) k servers) (7 + size) last) (sym seven)
    ∙ ap (λ l. placed l (7 + size) last) (placed_join b 0 front servers (omega arith))
    ∙ ap (λ k. placed (placed b 0 (front ++ servers)) k last) (sym both)
    ∙ placed_join b 0 (front ++ servers) last (omega arith)
    ∙ ap (placed b 0) (append_assoc front servers last)
