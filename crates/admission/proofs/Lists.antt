-- A test of each element of a list is the test at every place of it, and of some element the test at some place: by taking the first one apart.
use Prim.Native.Nat.{ℕ, zero, suc}
use mathlib.Core.Path.{◌≡◌, refl, sym}
use mathlib.Core.Bool.{Bool, true, false, ◌&&◌, ◌||◌}
use mathlib.Core.List.{List, [], ◌∷◌}
use lib.ListN.{length, get_or}
use Rattle.std.specs.List.{list_all, list_any}
use Rattle.terms.specs.Words.{every, some}

module _ (f : ℕ → Bool) where
  every_first : (n : ℕ) → every f (suc n) ≡ (f 0 && every (λ k. f (suc k)) n)
  unfolding every
  every_first zero = last (f 0)
    where
      last : (x : Bool) → (true && x) ≡ (x && true)
      last true = refl
      last false = refl
  every_first (suc n) = rw (every_first n) (over (f 0) (every (λ k. f (suc k)) n) (f (suc n)))
    where
      over : (x y z : Bool) → ((x && y) && z) ≡ (x && (y && z))
      over true y z = refl
      over false y z = refl

  some_first : (n : ℕ) → some f (suc n) ≡ (f 0 || some (λ k. f (suc k)) n)
  unfolding some
  some_first zero = last (f 0)
    where
      last : (x : Bool) → (false || x) ≡ (x || false)
      last true = refl
      last false = refl
  some_first (suc n) = rw (some_first n) (over (f 0) (some (λ k. f (suc k)) n) (f (suc n)))
    where
      over : (x y z : Bool) → ((x || y) || z) ≡ (x || (y || z))
      over true y z = refl
      over false y z = refl

module _ {A : Type 0} (d : A) (test : A → Bool) where
  all_whole : (xs : List A) → list_all test xs ≡ every (λ k. test (get_or xs k d)) (length xs)
  unfolding every
  all_whole [] = refl
  all_whole (x ∷ xs) = rw (all_whole xs) (sym (every_first (λ k. test (get_or (x ∷ xs) k d)) (length xs)))

  any_whole : (xs : List A) → list_any test xs ≡ some (λ k. test (get_or xs k d)) (length xs)
  unfolding some
  any_whole [] = refl
  any_whole (x ∷ xs) = rw (any_whole xs) (sym (some_first (λ k. test (get_or (x ∷ xs) k d)) (length xs)))

  pub all_is_every : (xs : List A) (n : ℕ) → length xs ≡ n → list_all test xs ≡ every (λ k. test (get_or xs k d)) n
  all_is_every xs n e = rw (sym e) (all_whole xs)

  pub any_is_some : (xs : List A) (n : ℕ) → length xs ≡ n → list_any test xs ≡ some (λ k. test (get_or xs k d)) n
  any_is_some xs n e = rw (sym e) (any_whole xs)
