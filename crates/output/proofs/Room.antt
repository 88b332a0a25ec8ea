-- Once room is made, bytes that are no more than the buffer's size all fit.
use Prim.Native.Nat.{ℕ, ◌-◌, ◌≤◌, min}
use mathlib.Core.Path.{◌≡◌, refl}
use mathlib.Core.Bool.{Bool, true, false}
use mathlib.Core.List.{List}
use lib.ListN.{length, take, drop}
use Rattle.std.proofs.Common.{Result, Ok, Err, OnOk}
use Rattle.std.proofs.Math.Seq.{take-length}
use lib.Dec.{ltb}
use native.Mathlib.Omega.{arith}
use native.Mathlib.Nat.{min-eq_left}
use borrow.Author.Tests.{ltb-false}
use Rattle.std.proofs.lemmas.List.{length-take}
use Rattle.terms.specs.Words.{pick}
use Rattle.output.specs.Output.{waiting, kept}

-- what waits then leaves room
leaves : (size used room : ℕ) → room ≤ size → room ≤ size - waiting size used room
unfolding waiting
leaves size used room h = go (ltb size used) (ltb (size - used) room) refl refl
  where
    go : (a b : Bool) → ltb size used ≡ a → ltb (size - used) room ≡ b → room ≤ size - pick a 0 (pick b 0 used)
    go true b e f = omega arith
    go false true e f = omega arith
    go false false e f = omega (arith, ltb-false _ _ f)

pub all_fits : (size : ℕ) (xs bs : List ℕ) → length bs ≤ size → min (length bs) (size - length (kept size xs (length bs))) ≡ length bs
all_fits size xs bs h = min-eq_left (omega (arith, leaves size (length xs) (length bs) h, length-take (waiting size (length xs) (length bs)) xs))

-- and nothing is left of them
pub none_left : (n : ℕ) (bs : List ℕ) → n ≡ length bs → length (take (length bs - n) (drop n bs)) ≡ 0
none_left n bs e = omega (arith, length-take (length bs - n) (drop n bs), e)

pub all_taken : (n : ℕ) (bs : List ℕ) → n ≡ length bs → take n bs ≡ bs
all_taken n bs e = rw e (take-length bs)

-- what is said on Ok, said otherwise
pub on_ok : {A E P Q : Type 0} (r : Result A E) → (P → Q) → OnOk r P → OnOk r Q
on_ok (Ok x) f p = f p
on_ok (Err e) f p = p
