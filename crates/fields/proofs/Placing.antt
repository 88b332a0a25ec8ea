-- Bytes placed in a buffer: a run of stores is a cut and a paste, and two runs that adjoin are one.
use Prim.Native.Nat.{ℕ, suc, ◌+◌, ◌-◌, ◌<◌, ◌≤◌}
use mathlib.Core.Path.{◌≡◌, sym, ap, ◌∙◌}
use mathlib.Core.List.{List, [], ◌∷◌, ◌++◌, append_assoc}
use lib.ListN.{length, get_or, take, drop, length-append, length-drop}
use lib.Seq.{sets, sets-eq, take_at, drop_at, drop-drop, length-take-le}
use native.Mathlib.Omega.{arith}
use native.Mathlib.Decide.{dec_le}
use borrow.Rule.Slice.PartMut.{put_mid}
use borrow.Author.Tests.{le-leb, lt-leb}
use Rattle.std.specs.Int.{w16, w32, to_be_bytes}
use Rattle.fields.specs.Numbers.{bytes_of, placed}
use Rattle.fields.specs.Fields.{head_of, field_of}
use Rattle.fields.proofs.Numbers.{bytes_length, be_bytes}

module _ (b : List ℕ) (at : ℕ) (xs : List ℕ) where
  -- where they fit, and where they do not
  pub placed_in : at + length xs ≤ length b → placed b at xs ≡ take at b ++ xs ++ drop (at + length xs) b
  unfolding placed
  placed_in h = simp (le-leb _ _ h)

  pub placed_out : length b < at + length xs → placed b at xs ≡ b
  unfolding placed
  placed_out h = simp (lt-leb _ _ h)

  -- stores one after the other
  pub placed_sets : at + length xs ≤ length b → sets b at xs ≡ placed b at xs
  placed_sets h = sets-eq xs b at h ∙ sym (placed_in h)

  -- a part of the buffer that is overwritten
  pub placed_part : at + length xs ≤ length b → put_mid at (at + length xs - at) b xs ≡ placed b at xs
  placed_part h =
      let width : at + length xs - at ≡ length xs = omega arith in
      rw (placed_in h, width, drop-drop (length xs) at b, append_assoc)

  pub placed_length : length (placed b at xs) ≡ length b
  placed_length = go (dec_le (at + length xs) (length b))
    where
      go : Dec (at + length xs ≤ length b) → length (placed b at xs) ≡ length b
      go (yes h) = rw (placed_in h, length-append, length-append, length-take-le at b (omega arith), length-drop) (omega arith)
      go (no z) = ap length (placed_out (omega arith))

-- bytes behind bytes
pub placed_join : (b : List ℕ) (at : ℕ) (xs ys : List ℕ) → at + length xs + length ys ≤ length b
    → placed (placed b at xs) (at + length xs) ys ≡ placed b at (xs ++ ys)
placed_join b at xs ys h =
    let n = at + length xs in
    let c = placed b at xs in
    let e : c ≡ take at b ++ xs ++ drop n b = placed_in b at xs (omega arith) in
    let long : length (take at b ++ xs) ≡ n = rw (length-append, length-take-le at b (omega arith)) in
    let total : n + length ys ≤ length c = rw placed_length h in
    let front : take n c ≡ take at b ++ xs = ap (take n) e ∙ take_at (take at b ++ xs) (drop n b) n long in
    let back : drop (n + length ys) c ≡ drop (n + length ys) b =
    sym (drop-drop (length ys) n c) ∙ ap (drop (length ys)) (ap (drop n) e ∙ drop_at (take at b ++ xs) (drop n b) n long) ∙ drop-drop (length ys) n b in
    let whole : at + length (xs ++ ys) ≡ n + length ys = rw length-append (omega arith) in
    placed_in c n ys total ∙ rw (front, back, placed_in b at (xs ++ ys) (omega arith), whole, append_assoc (take at b))

-- a head is its tag and the library's two bytes of the length
pub placed_head : (b : List ℕ) (at tag size : ℕ) (bs : List ℕ) → bs ≡ to_be_bytes w16 size
    → placed b at (tag ∷ get_or bs 0 0 ∷ get_or bs 1 0 ∷ []) ≡ placed b at (head_of tag size)
placed_head b at tag size bs e = rw e (ap (λ l. placed b at (tag ∷ l)) (be_bytes 2 size))

-- a number's four bytes are the library's
pub word_bytes : (x : ℕ) → bytes_of 4 x ≡ to_be_bytes w32 x
word_bytes x = sym (be_bytes 4 x)

-- a field: its head, and its body behind it
pub placed_field : (b : List ℕ) (at tag : ℕ) (body : List ℕ) → at + 3 + length body ≤ length b
    → placed (placed b at (head_of tag (length body))) (at + 3) body ≡ placed b at (field_of tag body)
unfolding field_of
placed_field b at tag body h =
    let three : length (head_of tag (length body)) ≡ 3 = ap suc (bytes_length 2 (length body)) in
    rw three at (placed_join b at (head_of tag (length body)) body (omega arith))
