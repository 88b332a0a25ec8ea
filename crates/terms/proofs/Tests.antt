-- Tests that are joined, taken apart: by cases on each.
use Prim.Native.Nat.{ℕ}
use mathlib.Core.Path.{◌≡◌, refl, sym, ap, ◌∙◌}
use mathlib.Core.Logic.{◌⊎◌, inl, inr}
use mathlib.Core.Bool.{Bool, true, false, ◌&&◌, ◌||◌}
use native.Mathlib.Omega.{arith}
use Rattle.terms.specs.Words.{pick}

pub not_both : {x : Bool} → x ≡ true → x ≡ false → ⊥
not_both t f = let z : ◌≡◌ {A = ℕ} 0 1 = cc in omega arith

pub true_or_false : (x : Bool) → (x ≡ true) ⊎ (x ≡ false)
true_or_false true = inl refl
true_or_false false = inr refl

-- two tests that follow from one another are the same test
pub same_test : (x y : Bool) → (x ≡ true → y ≡ true) → (y ≡ true → x ≡ true) → x ≡ y
same_test true true f g = refl
same_test true false f g = absurd (not_both (f refl) refl)
same_test false true f g = absurd (not_both (g refl) refl)
same_test false false f g = refl

pub and_in : (x y : Bool) → x ≡ true → y ≡ true → (x && y) ≡ true
and_in true y p q = q
and_in false y p q = p

pub and_left : (x y : Bool) → (x && y) ≡ true → x ≡ true
and_left true y p = refl
and_left false y p = p

pub and_right : (x y : Bool) → (x && y) ≡ true → y ≡ true
and_right true y p = p
and_right false y p = absurd (not_both p refl)

pub or_left : (x y : Bool) → x ≡ true → (x || y) ≡ true
or_left true y p = refl
or_left false y p = absurd (not_both p refl)

pub or_right : (x y : Bool) → y ≡ true → (x || y) ≡ true
or_right true y p = refl
or_right false y p = p

pub or_out : (x y : Bool) → (x || y) ≡ true → (x ≡ true) ⊎ (y ≡ true)
or_out true y p = inl refl
or_out false y p = inr p

-- what holds of both sides of an if holds of what it picks
pub either : {A : Type 0} (P : A → Type 0) (t : Bool) {x y : A} → P x → P y → P (pick t x y)
either P true p q = p
either P false p q = q

-- by a test, with what it says
pub by_test : {A : Type 0} (P : A → Type 0) (t : Bool) {x y : A} → (t ≡ true → P x) → (t ≡ false → P y) → P (pick t x y)
by_test P true f g = f refl
by_test P false f g = g refl

-- a test on what a callee gave is the test on what the callee's definition says
pub test_of : {A : Type 0} {x y : A} {b v : Bool} (test : A → Bool) → b ≡ test x → x ≡ y → b ≡ v → test y ≡ v
test_of test e q t = ap test (sym q) ∙ sym e ∙ t
