-- A head read at an offset and a field standing there are the same: its two length bytes are the body's length.
use Prim.Native.Nat.{ℕ, suc, ◌+◌, ◌-◌, ◌<◌, ◌≤◌}
use mathlib.Core.Path.{◌≡◌, refl, sym, ap, ◌∙◌}
use mathlib.Core.Bool.{Bool, true, false}
use mathlib.Core.List.{List, ◌∷◌, ◌++◌, append_assoc}
use lib.ListN.{length, get_or, take, drop, length-append, length-take, length-drop, take-append-drop, get_or-eq_default}
use lib.Seq.{drop_at, take-append_seam, get_or-drop, get_or-take, drop-drop, drop-cons, take_at, drop-append_seam, length-take-le}
use lib.Dec.{leb, ltb}
use native.Mathlib.Omega.{arith}
use native.Mathlib.Decide.{dec_lt}
use native.Mathlib.Numerals.{add-one}
use borrow.Author.Tests.{leb-true, ltb-false, lt-leb, le-leb, le-ltb, lt-ltb}
use Rattle.terms.specs.Words.{pick}
use Rattle.fields.specs.Numbers.{Bytes, number_of, bytes_of, number_in}
use Rattle.fields.specs.Fields.{field_of, length_at, head_at}
use Rattle.fields.specs.declared.Head.TheVariants.{Missing, Cut, Field}
use Rattle.fields.proofs.Numbers.{bytes_length, number_kept, bytes_kept, number_below, number_in_lem}

pub field_length : (tag : ℕ) (body : List ℕ) → length (field_of tag body) ≡ length body + 3
unfolding field_of
field_length tag body = omega (arith, length-append (bytes_of 2 (length body)) body, bytes_length 2 (length body))

-- a part of bytes is bytes
pub part_bytes : (s : List ℕ) (n k : ℕ) → Bytes s → Bytes (take n (drop k s))
part_bytes s n k h i = go (dec_lt i n)
  where
    go : Dec (i < n) → get_or (take n (drop k s)) i 0 < 256
    go (yes l) = rw (get_or-take n (drop k s) i 0 l, get_or-drop) (h (k + i))
    go (no z) = rw (get_or-eq_default (take n (drop k s)) 0 {n = i} (omega (arith, length-take n (drop k s)))) (omega arith)

module _ (s : List ℕ) (at : ℕ) where
  -- the bytes from an offset on are a field and what is behind it: that field is read
  pub head_of_field : (tag : ℕ) (body behind : List ℕ) → length body < 65536 → drop at s ≡ field_of tag body ++ behind
      → head_at s at ≡ Field tag (at + 3) (length body)
  unfolding head_at length_at field_of
  head_of_field tag body behind small e =
      let size = bytes_of 2 (length body) in
      let long : length s - at ≡ suc (length (size ++ body ++ behind)) = sym (length-drop at s) ∙ ap length e in
      let parts : length (size ++ body ++ behind) ≡ 2 + length body + length behind =
      rw (length-append, length-append, bytes_length) in
      let tag_is : get_or s at 0 ≡ tag = ap (λ k. get_or s k 0) (omega arith) ∙ sym (get_or-drop at s 0 0) ∙ ap (λ l. get_or l 0 0) e in
      let rest : drop (at + 1) s ≡ size ++ (body ++ behind) = sym (drop-drop 1 at s) ∙ ap (drop 1) e ∙ append_assoc size body behind in
      let length-is : number_of (take 2 (drop (at + 1) s)) ≡ length body =
      ap (λ l. number_of (take 2 l)) rest ∙ ap number_of (take_at size (body ++ behind) 2 (bytes_length 2 (length body)))
      ∙ number_kept 2 (length body) small in
      rw (length-is, tag_is) (simp (lt-leb (length s) at (omega arith), le-ltb (length s) (at + 3 + length body) (omega arith)))

  -- a field that is read stands there: its place, and the bytes from the offset on
  pub record Stands (tag start size : ℕ) : Type 0 where
    pub starts : start ≡ at + 3
    pub within : start + size ≤ length s
    pub short : size < 65536
    pub bytes : drop at s ≡ field_of tag (take size (drop start s)) ++ drop (start + size) s

  -- what the tests leave of a head
  pub head_missing : length s ≤ at → head_at s at ≡ Missing
  unfolding head_at
  head_missing h = simp (le-leb _ _ h)

  pub head_cut : at < length s → length s < at + 3 + length_at s at → head_at s at ≡ Cut
  unfolding head_at
  head_cut h l = simp (lt-leb _ _ h, lt-ltb _ _ l)

  pub head_whole : at + 3 + length_at s at ≤ length s → head_at s at ≡ Field (get_or s at 0) (at + 3) (length_at s at)
  unfolding head_at
  head_whole h = simp (lt-leb (length s) at (omega arith), le-ltb _ _ h)

  pub whole_of_head : (tag start size : ℕ) → head_at s at ≡ Field tag start size → at + 3 + length_at s at ≤ length s
  unfolding head_at
  whole_of_head tag start size = go (leb (length s) at) (ltb (length s) (at + 3 + length_at s at)) refl
    where
      go : (p q : Bool) → ltb (length s) (at + 3 + length_at s at) ≡ q
          → pick p Missing (pick q Cut (Field (get_or s at 0) (at + 3) (length_at s at))) ≡ Field tag start size
          → at + 3 + length_at s at ≤ length s
      go true q l e = let z : ◌≡◌ {A = ℕ} 0 1 = cc in omega arith
      go false true l e = let z : ◌≡◌ {A = ℕ} 0 1 = cc in omega arith
      go false false l e = ltb-false _ _ l

  module _ (h : Bytes s) (whole : at + 3 + length_at s at ≤ length s) where
    size_length : length (take 2 (drop (at + 1) s)) ≡ 2
    size_length = length-take-le 2 (drop (at + 1) s) (rw length-drop (omega arith))

    size_below : length_at s at < 65536
    unfolding length_at
    size_below = rw size_length at (number_below (take 2 (drop (at + 1) s)) (part_bytes s 2 (at + 1) h))

    size_bytes : take 2 (drop (at + 1) s) ≡ bytes_of 2 (length_at s at)
    unfolding length_at
    size_bytes = sym (rw size_length at (bytes_kept (take 2 (drop (at + 1) s)) (part_bytes s 2 (at + 1) h)))

    stands : Stands (get_or s at 0) (at + 3) (length_at s at)
    unfolding field_of
    stands =
        let start = at + 3 in
        let size = length_at s at in
        let body = take size (drop start s) in
        let body_length : length body ≡ size = length-take-le size (drop start s) (rw length-drop (omega arith)) in
        let three : at + 1 + 2 ≡ start = omega arith in
        let tail : drop (at + 1) s ≡ bytes_of 2 (length body) ++ body ++ drop (start + size) s =
        sym (take-append-drop 2 (drop (at + 1) s))
        ∙ rw (size_bytes, body_length, drop-drop 2 (at + 1) s, three, append_assoc, ← drop-drop size start s, take-append-drop size (drop start s)) in
        record {
          starts = refl;
          within = whole;
          short = size_below;
          bytes = drop-cons s at 0 (omega arith) ∙ ap (λ l. get_or s at 0 ∷ l) (rw add-one at tail);
        }

  pub field_of_head : (tag start size : ℕ) → Bytes s → head_at s at ≡ Field tag start size → Stands tag start size
  field_of_head tag start size h e =
      let whole = whole_of_head tag start size e in
      let same : Field (get_or s at 0) (at + 3) (length_at s at) ≡ Field tag start size = sym (head_whole whole) ∙ e in
      let t : get_or s at 0 ≡ tag = cc same in
      let b : at + 3 ≡ start = cc same in
      let l : length_at s at ≡ size = cc same in
      rw (t, b, l) at (stands h whole)

-- where the bytes from an offset on are a field and what is behind it: its body, and what is behind it
module _ (s : List ℕ) (at tag : ℕ) (body behind : List ℕ) (e : drop at s ≡ field_of tag body ++ behind) where
  pub body_on : drop (at + 3) s ≡ body ++ behind
  unfolding field_of
  body_on =
      let size = bytes_of 2 (length body) in
      sym (drop-drop 3 at s) ∙ ap (drop 3) e ∙ ap (drop 2) (append_assoc size body behind)
      ∙ drop_at size (body ++ behind) 2 (bytes_length 2 (length body))

  pub body_is : take (length body) (drop (at + 3) s) ≡ body
  body_is = ap (take (length body)) body_on ∙ take-append_seam body behind

  pub behind_is : drop (at + 3 + length body) s ≡ behind
  behind_is = sym (drop-drop (length body) (at + 3) s) ∙ ap (drop (length body)) body_on ∙ drop-append_seam body behind

-- a field that is read lies within the sheet, on any sheet
pub head_within : (s : List ℕ) (at : ℕ) {tag start size : ℕ} → head_at s at ≡ Field tag start size → (start ≡ at + 3) × (start + size ≤ length s)
head_within s at {tag} {start} {size} e =
    let whole = whole_of_head s at tag start size e in
    let same : Field (get_or s at 0) (at + 3) (length_at s at) ≡ Field tag start size = sym (head_whole s at whole) ∙ e in
    let b : at + 3 ≡ start = cc same in
    let l : length_at s at ≡ size = cc same in
    (sym b, omega arith)

-- a field is missing only where the sheet ends
pub missing_end : (s : List ℕ) (at : ℕ) → head_at s at ≡ Missing → length s ≤ at
unfolding head_at
missing_end s at = go (leb (length s) at) (ltb (length s) (at + 3 + length_at s at)) refl
  where
    go : (p q : Bool) → leb (length s) at ≡ p → pick p Missing (pick q Cut (Field (get_or s at 0) (at + 3) (length_at s at))) ≡ Missing → length s ≤ at
    go true q l e = leb-true _ _ l
    go false true l e = let z : ◌≡◌ {A = ℕ} 0 1 = cc in omega arith
    go false false l e = let z : ◌≡◌ {A = ℕ} 0 1 = cc in omega arith

-- the two bytes behind a tag, as the code reads them
pub length_read : (s : List ℕ) (at : ℕ) → at + 3 ≤ length s → number_in 2 (take (at + 3 - (at + 1)) (drop (at + 1) s)) ≡ length_at s at
unfolding length_at
length_read s at h =
    let two : at + 3 - (at + 1) ≡ 2 = omega arith in
    rw two (number_in_lem 2 (take 2 (drop (at + 1) s)) (length-take-le 2 (drop (at + 1) s) (rw length-drop (omega arith))))

-- both ways, on the whole sheet: a field between what is before and behind it is read, and what is read is such a field
pub head_between : (before : List ℕ) (tag : ℕ) (body behind : List ℕ) → length body < 65536
    → head_at (before ++ (field_of tag body ++ behind)) (length before) ≡ Field tag (length before + 3) (length body)
head_between before tag body behind small =
    let rest = field_of tag body ++ behind in
    head_of_field (before ++ rest) (length before) tag body behind small (drop-append_seam before rest)

pub between_of_head : (s : List ℕ) (at tag start size : ℕ) → Bytes s → head_at s at ≡ Field tag start size
    → s ≡ take at s ++ (field_of tag (take size (drop start s)) ++ drop (start + size) s)
between_of_head s at tag start size h e =
    sym (take-append-drop at s) ∙ ap (λ l. take at s ++ l) (field_of_head s at tag start size h e).bytes
