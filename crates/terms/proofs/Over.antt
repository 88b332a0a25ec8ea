-- What holds of the sum, the largest, every, some and the list over the numbers below n: by going from n to n + 1.
use Prim.Native.Nat.{ℕ, zero, suc, ◌+◌, ◌≤◌, ◌<◌, max}
use mathlib.Core.Path.{◌≡◌, refl, sym, subst, ◌∙◌}
use mathlib.Core.Logic.{◌⊎◌, inl, inr, ⊎_elim}
use mathlib.Core.Bool.{Bool, true, false, ◌&&◌, ◌||◌}
use mathlib.Core.List.{[], ◌∷◌}
use lib.ListN.{length, get_or, length-append, get_or-append}
use lib.Seq.{get_or_at}
use native.Mathlib.Omega.{arith}
use native.Mathlib.Nat.{eq-or-lt_of_le, le_of_suc-le-suc, max-le, max-eq_left, max-eq_right, le-max_left, le-max_right}
use native.Mathlib.Numerals.{add-one}
use native.Mathlib.Decide.{dec_le}
use Rattle.terms.specs.Words.{sum, largest, every, some, list}
use Rattle.terms.proofs.Tests.{not_both, true_or_false, and_in, and_left, and_right, or_left, or_right, or_out}

-- below n + 1: n itself, or below n
pub last_or_below : {j n : ℕ} → j < suc n → (j ≡ n) ⊎ (j < n)
last_or_below h = eq-or-lt_of_le (le_of_suc-le-suc h)

-- what holds below n and at n holds below n + 1
pub below_suc : (P : ℕ → Type 0) {n : ℕ} → ((j : ℕ) → j < n → P j) → P n → (j : ℕ) → j < suc n → P j
below_suc P all here j h = ⊎_elim (λ e. subst P (sym e) here) (λ l. all j l) (last_or_below h)

-- a sum grows with its parts
pub sum_le : (n : ℕ) (f g : ℕ → ℕ) → ((j : ℕ) → j < n → f j ≤ g j) → sum f n ≤ sum g n
unfolding sum
sum_le zero f g h = omega arith
sum_le (suc n) f g h = omega (arith, sum_le n f g (λ j k. h j (omega arith)), h n (omega arith))

-- the largest is at least each
pub largest_upper : (f : ℕ → ℕ) (n j : ℕ) → j < n → f j ≤ largest f n
unfolding largest
largest_upper f zero j h = absurd (omega arith)
largest_upper f (suc n) j h =
    ⊎_elim (λ (e : j ≡ n). rw e (le-max_right _ _)) (λ (l : j < n). omega (arith, largest_upper f n j l, le-max_left (largest f n) (f n)))
    (last_or_below h)

-- it is at most what each is at most
pub largest_least : (f : ℕ → ℕ) (n b : ℕ) → ((j : ℕ) → j < n → f j ≤ b) → largest f n ≤ b
unfolding largest
largest_least f zero b h = omega arith
largest_least f (suc n) b h = max-le (largest_least f n b (λ j l. h j (omega arith))) (h n (omega arith))

-- it is one of them, or 0
pub largest_one : (f : ℕ → ℕ) (n : ℕ) → ((j : ℕ) × (j < n) × (largest f n ≡ f j)) ⊎ (largest f n ≡ 0)
unfolding largest
largest_one f zero = inr refl
largest_one f (suc n) = go (dec_le (f n) (largest f n)) (largest_one f n)
  where
    go : Dec (f n ≤ largest f n) → ((j : ℕ) × (j < n) × (largest f n ≡ f j)) ⊎ (largest f n ≡ 0)
        → ((j : ℕ) × (j < suc n) × (max (largest f n) (f n) ≡ f j)) ⊎ (max (largest f n) (f n) ≡ 0)
    go (no z) w = inl (n, omega arith, max-eq_right (omega arith))
    go (yes l) (inl (j, k, e)) = inl (j, omega arith, max-eq_left l ∙ e)
    go (yes l) (inr e) = inr (max-eq_left l ∙ e)

-- every and some, both ways
pub every_in : (f : ℕ → Bool) (n : ℕ) → ((j : ℕ) → j < n → f j ≡ true) → every f n ≡ true
unfolding every
every_in f zero h = refl
every_in f (suc n) h = and_in (every f n) (f n) (every_in f n (λ j l. h j (omega arith))) (h n (omega arith))

pub every_out : (f : ℕ → Bool) (n : ℕ) → every f n ≡ true → (j : ℕ) → j < n → f j ≡ true
unfolding every
every_out f zero e j h = absurd (omega arith)
every_out f (suc n) e j h =
    below_suc (λ j. f j ≡ true) (every_out f n (and_left (every f n) (f n) e)) (and_right (every f n) (f n) e) j h

pub some_in : (f : ℕ → Bool) (n j : ℕ) → j < n → f j ≡ true → some f n ≡ true
unfolding some
some_in f zero j h e = absurd (omega arith)
some_in f (suc n) j h e =
    ⊎_elim (λ (p : j ≡ n). or_right (some f n) (f n) (rw p at e)) (λ (l : j < n). or_left (some f n) (f n) (some_in f n j l e))
    (last_or_below h)

pub some_out : (f : ℕ → Bool) (n : ℕ) → some f n ≡ true → (j : ℕ) × (j < n) × (f j ≡ true)
unfolding some
some_out f zero e = absurd (not_both e refl)
some_out f (suc n) e =
    ⊎_elim (λ p. let (j, l, q) = some_out f n p in (j, omega arith, q)) (λ p. (n, omega arith, p)) (or_out (some f n) (f n) e)

-- from n to n + 1, as the code counts
pub sum_next : (f : ℕ → ℕ) (n : ℕ) → sum f (n + 1) ≡ sum f n + f n
unfolding sum
sum_next f n = rw add-one

pub largest_next : (f : ℕ → ℕ) (n : ℕ) → largest f (n + 1) ≡ max (largest f n) (f n)
unfolding largest
largest_next f n = rw add-one

pub every_next : (f : ℕ → Bool) (n : ℕ) → every f (n + 1) ≡ (every f n && f n)
unfolding every
every_next f n = rw add-one

pub some_next : (f : ℕ → Bool) (n : ℕ) → some f (n + 1) ≡ (some f n || f n)
unfolding some
some_next f n = rw add-one

-- a test that fails somewhere does not hold everywhere
pub every_fails : (f : ℕ → Bool) (n j : ℕ) → j < n → f j ≡ false → every f n ≡ false
every_fails f n j h e = ⊎_elim (λ t. absurd (not_both (every_out f n t j h) e)) (λ t. t) (true_or_false (every f n))

-- the list's length, and what stands at each place
module _ {A : Type 0} (f : ℕ → A) where
  pub list_length : (n : ℕ) → length (list f n) ≡ n
  unfolding list
  list_length zero = refl
  list_length (suc n) = rw (length-append, list_length n, add-one)

  pub list_at : (n j : ℕ) (d : A) → j < n → get_or (list f n) j d ≡ f j
  unfolding list
  list_at zero j d h = absurd (omega arith)
  list_at (suc n) j d h =
      ⊎_elim (λ (e : j ≡ n). rw e (get_or_at (list f n) (f n) [] d n (list_length n)))
      (λ (l : j < n). get_or-append (list f n) (f n ∷ []) d j (rw list_length l) ∙ list_at n j d l) (last_or_below h)
