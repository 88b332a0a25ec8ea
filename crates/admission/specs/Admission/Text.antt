-- The text of the shut definitions, for the proofs of this crate's functions and for worked cases: no crate above builds on it.
use Rattle.std.specs.Prelude.{ℕ, ◌*◌, ◌/◌, ◌≡◌, refl, not, ◌&&◌, ◌||◌, List, ltb, leb, Ok, Err}
use Rattle.terms.specs.Words.{pick, when, sum, largest, every, some}
use Rattle.timing.specs.declared.Figures.{Figures}
use Rattle.admission.specs.Admission.{slots, in_table, period_of, budget_of, hold_of, load, used, longest_wait, fits_at, passes, period_fits, budget_fits, holds_fit, figures_of, placed, judged}
use Rattle.refusals.specs.declared.Refusal.TheVariants.{PeriodOutOfRange, BudgetOutOfRange, HoldAboveBudget, TestNotMet}

pub load_is : (t : List Figures) (l p : ℕ)
    → load t l p ≡ sum (λ i. when (in_table t i && leb (period_of t i) p) (budget_of t i * (l / period_of t i))) slots
unfolding load
load_is t l p = refl

pub used_is : (t : List Figures) (p r : ℕ) → used t p r ≡ some (λ x. in_table t x && (leb (period_of t x) p && ltb 0 (hold_of t x r))) slots
unfolding used
used_is t p r = refl

pub longest_wait_is : (t : List Figures) (p : ℕ)
    → longest_wait t p ≡ largest (λ j. largest (λ r. when (ltb p (period_of t j) && used t p r) (hold_of t j r)) 8) slots
unfolding longest_wait
longest_wait_is t p = refl

pub passes_is : (t : List Figures) (l : ℕ) → passes t l ≡ every (λ k. not (in_table t k) || fits_at t l (period_of t k)) slots
unfolding passes
passes_is t l = refl

pub judged_is : (t : List Figures) (i l p q : ℕ) (hs : List ℕ)
    → judged t i l p q hs ≡ pick (not (period_fits l p)) (Err PeriodOutOfRange)
    (pick (not (budget_fits p q)) (Err BudgetOutOfRange)
    (pick (not (holds_fit q hs)) (Err HoldAboveBudget)
    (pick (not (passes (placed t i (figures_of p q hs)) l)) (Err TestNotMet) (Ok (figures_of p q hs)))))
unfolding judged
judged_is t i l p q hs = refl
