-- A seek finds the first number that passes: by going from n to n + 1.
use Prim.Native.Nat.{ℕ, zero, suc, ◌+◌, ◌<◌}
use mathlib.Core.Path.{◌≡◌, refl, sym}
use mathlib.Core.Logic.{⊎_elim}
use mathlib.Core.Bool.{Bool, true, false}
use native.Mathlib.Omega.{arith}
use native.Mathlib.Numerals.{add-one}
use Rattle.terms.proofs.Over.{last_or_below}
use Rattle.terms.proofs.Tests.{true_or_false}
use Rattle.std.specs.Prelude.{Option, Some, None}
use Rattle.board.specs.Board.{seek}

-- a slot is not nobody, and two slots that are equal have one number
pub no_slot : {i : ℕ} → None ≡ Some i → ⊥
no_slot q = let z : ◌≡◌ {A = ℕ} 0 1 = cc in omega arith

pub same_slot : {i j : ℕ} → Some i ≡ Some j → i ≡ j
same_slot q = cc

module _ (f : ℕ → Bool) where
  -- none passes: nobody
  pub search_none : (n : ℕ) → ((j : ℕ) → j < n → f j ≡ false) → seek f n ≡ None
  unfolding seek
  search_none zero h = refl
  search_none (suc n) h = simp (search_none n (λ j l. h j (omega arith)), h n (omega arith))

  -- the first that passes, and none before it
  pub search_first : (n i : ℕ) → i < n → seek f i ≡ None → f i ≡ true → seek f n ≡ Some i
  unfolding seek
  search_first zero i h e t = absurd (omega arith)
  search_first (suc n) i h e t =
      ⊎_elim (λ (q : i ≡ n). simp (← q, e, t)) (λ (l : i < n). simp (search_first n i l e t)) (last_or_below h)

  -- what it finds is below n and passes
  pub search_out : (n i : ℕ) → seek f n ≡ Some i → (i < n) × (f i ≡ true)
  unfolding seek
  search_out zero i e = absurd (no_slot e)
  search_out (suc n) i e = go (seek f n) refl (λ k q. search_out n k q) (f n) refl
    where
      go : (c : Option ℕ) → seek f n ≡ c → ((k : ℕ) → seek f n ≡ Some k → (k < n) × (f k ≡ true)) → (t : Bool) → f n ≡ t → (i < suc n) × (f i ≡ true)
      go (Some k) q rec t h =
          let s : k ≡ i = same_slot (simp q at e) in
          let (l, u) = rec k q in
          (omega arith, rw s at u)
      go None q rec true h = let s : n ≡ i = same_slot (simp (q, h) at e) in (omega arith, rw s at h)
      go None q rec false h = absurd (no_slot (simp (q, h) at e))

  -- nobody: none passes
  pub search_nobody : (n : ℕ) → seek f n ≡ None → (j : ℕ) → j < n → f j ≡ false
  unfolding seek
  search_nobody zero e j h = absurd (omega arith)
  search_nobody (suc n) e j h = go (seek f n) refl (λ q l. search_nobody n q j l) (f n) refl
    where
      go : (c : Option ℕ) → seek f n ≡ c → (seek f n ≡ None → j < n → f j ≡ false) → (t : Bool) → f n ≡ t → f j ≡ false
      go (Some k) q rec t u = absurd (no_slot (sym (simp q at e)))
      go None q rec true u = absurd (no_slot (sym (simp (q, u) at e)))
      go None q rec false u = ⊎_elim (λ (p : j ≡ n). rw p u) (λ (l : j < n). rec q l) (last_or_below h)

  -- the only one that passes
  pub search_only : (n i : ℕ) → i < n → f i ≡ true → ((j : ℕ) → j < n → f j ≡ true → j ≡ i) → seek f n ≡ Some i
  search_only n i h t only =
      search_first n i h
      (search_none i (λ j l. ⊎_elim (λ e. absurd (omega (arith, only j (omega arith) e))) (λ e. e) (true_or_false (f j)))) t

  pub search_next : (n : ℕ) → seek f n ≡ None → f n ≡ false → seek f (n + 1) ≡ None
  unfolding seek
  search_next n e t = rw add-one (simp (e, t))
