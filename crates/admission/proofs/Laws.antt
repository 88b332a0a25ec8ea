-- What the test states, for the crates above: it passes exactly if it is met for every k, by taking every apart.
use Prim.Native.Nat.{ℕ, ◌+◌, ◌*◌, ◌/◌, ◌<◌, ◌≤◌}
use Rattle.std.specs.Prelude.{◌≡◌, ◌⊎◌, ◌||◌, List}
use Rattle.std.proofs.Math.Path.{ap, sym}
use Rattle.std.proofs.Common.{◌∙◌, arith, mul-le-mul_right}
use Rattle.std.proofs.Math.Logic.{⊎_elim}
use Rattle.std.proofs.Math.Bool.{true, not}
use borrow.Author.Tests.{le-leb, leb-true, not-true}
use Rattle.terms.proofs.Over.{every_in, every_out}
use Rattle.terms.proofs.Tests.{not_both, true_or_false, or_right, or_left, or_out}
use Rattle.timing.specs.declared.Figures.{Figures}
use Rattle.admission.specs.Admission.{slots, in_table, period_of, load, longest_wait, Ranges, fits_at, passes}
use Rattle.admission.specs.Admission.Laws.{wait_upper}
use Rattle.admission.specs.Admission.Text.{passes_is}

module _ (t : List Figures) where
  -- the test passes exactly if it is met for every k of the table
  module _ (l : ℕ) where
    pub passes_in : ((k : ℕ) → k < slots → in_table t k ≡ true → load t l (period_of t k) + longest_wait t (period_of t k) * (l / period_of t k) ≤ l) → passes t l ≡ true
    passes_in f = rw passes_is (every_in (λ k. not (in_table t k) || fits_at t l (period_of t k)) slots (λ k h.
        ⊎_elim (λ e. or_right (not (in_table t k)) _ (le-leb _ _ (f k h e))) (λ e. or_left (not (in_table t k)) _ (ap not e)) (true_or_false (in_table t k))))

    pub passes_out : passes t l ≡ true → (k : ℕ) → k < slots → in_table t k ≡ true → load t l (period_of t k) + longest_wait t (period_of t k) * (l / period_of t k) ≤ l
    passes_out e k h i =
        ⊎_elim (λ n. absurd (not_both i (not-true _ n))) (λ m. leb-true _ _ m)
        (or_out (not (in_table t k)) (fits_at t l (period_of t k)) (every_out (λ k. not (in_table t k) || fits_at t l (period_of t k)) slots (sym (passes_is t l) ∙ e) k h))

    -- ADM, with M = L: the load of the periods up to P_k, and any wait
    pub ADM : passes t l ≡ true → (k h : ℕ) → k < slots → in_table t k ≡ true → (h ≡ 0) ⊎ Ranges t (period_of t k) h
        → load t l (period_of t k) + h * (l / period_of t k) ≤ l
    ADM e k h b i w =
        let m : h ≤ longest_wait t (period_of t k) = ⊎_elim (λ z. omega arith) (λ r. wait_upper t (period_of t k) h r) w in
        omega (arith, passes_out e k b i, mul-le-mul_right (l / period_of t k) m)
