-- Admission (document 01, "Numbers" and "Admission"): who may be in the table, and the judgement of a newcomer.
pub mod Laws
pub mod Judging
pub mod Text
use Rattle.std.specs.Prelude.{ℕ, ◌+◌, ◌*◌, ◌/◌, ◌%◌, ◌<◌, ◌≤◌, ◌≡◌, ◌⊎◌, Bool, true, false, not, ◌&&◌, ◌||◌, List, [], get_or, set, ltb, leb, eqb, Result, Ok, Err}
use Rattle.terms.specs.Words.{pick, when, sum, largest, every, some, list}
use Rattle.quantity.specs.Quantity.{ticks, length_of, longest_period}
use Rattle.timing.specs.declared.Figures.{Figures}
use Rattle.timing.specs.Timing.{present, hold}
use Rattle.refusals.specs.declared.Refusal.{Refusal}
use Rattle.refusals.specs.declared.Refusal.TheVariants.{PeriodOutOfRange, BudgetOutOfRange, HoldAboveBudget, TestNotMet}

-- up to 16 servers; the table is their figures by slot, and a slot is in the table exactly if its period is not 0
abbrev pub slots : ℕ
slots = 16

abbrev pub slot_of : List Figures → ℕ → Figures
slot_of t i = get_or t i (record { period = ticks 0; budget = ticks 0; holds = [] })

abbrev pub period_of : List Figures → ℕ → ℕ
period_of t i = (slot_of t i).period.0

abbrev pub budget_of : List Figures → ℕ → ℕ
budget_of t i = (slot_of t i).budget.0

abbrev pub hold_of : List Figures → ℕ → ℕ → ℕ
hold_of t i r = (hold (slot_of t i) r).0

abbrev pub in_table : List Figures → ℕ → Bool
in_table t i = present (slot_of t i)

-- the sum of Q_i * (L / P_i) over all i with P_i <= p
pub load : List Figures → ℕ → ℕ → ℕ
load t l p = sum (λ i. when (in_table t i && leb (period_of t i) p) (budget_of t i * (l / period_of t i))) slots

-- some server x with P_x <= p uses r
pub used : List Figures → ℕ → ℕ → Bool
used t p r = some (λ x. in_table t x && (leb (period_of t x) p && ltb 0 (hold_of t x r))) slots

-- B(k), for p = P_k: the largest H_j(r) over servers j with P_j > p and resources r that some server x with P_x <= p uses; 0 if there is none
pub longest_wait : List Figures → ℕ → ℕ
longest_wait t p = largest (λ j. largest (λ r. when (ltb p (period_of t j) && used t p r) (hold_of t j r)) 8) slots

-- a hold that B(k) ranges over
pub record Ranges (t : List Figures) (p h : ℕ) : Type 0 where
  pub j : ℕ
  pub r : ℕ
  pub x : ℕ
  pub j_slot : j < slots
  pub j_longer : p < period_of t j
  pub x_slot : x < slots
  pub x_present : in_table t x ≡ true
  pub x_shorter : period_of t x ≤ p
  pub x_uses : 0 < hold_of t x r
  pub is : h ≡ hold_of t j r

-- for k: the sum over all i with P_i <= P_k, plus B(k) * (L / P_k), is at most L
abbrev pub fits_at : List Figures → ℕ → ℕ → Bool
fits_at t l p = leb (load t l p + longest_wait t p * (l / p)) l

-- the test is met for every k of the table
pub passes : List Figures → ℕ → Bool
passes t l = every (λ k. not (in_table t k) || fits_at t l (period_of t k)) slots

-- t' has some of the servers of t, each in its slot
abbrev pub Part : List Figures → List Figures → Type 0
Part t' t = (k : ℕ) → k < slots → (slot_of t' k ≡ slot_of t k) ⊎ (in_table t' k ≡ false)

-- 4: a period is 1 to 1,000,000 and divides the frame
unfoldable pub period_fits : ℕ → ℕ → Bool
period_fits l p = leb 1 p && (leb p longest_period && eqb (l % p) 0)

-- 5: a budget is 1 to P
unfoldable pub budget_fits : ℕ → ℕ → Bool
budget_fits p q = leb 1 q && leb q p

-- 6: each hold is 0 to Q
unfoldable pub holds_fit : ℕ → List ℕ → Bool
holds_fit q hs = every (λ r. leb (get_or hs r 0) q) 8

-- the figures as they are kept, and the table with them in slot i
unfoldable pub figures_of : ℕ → ℕ → List ℕ → Figures
figures_of p q hs = record { period = length_of p; budget = length_of q; holds = list (λ r. length_of (get_or hs r 0)) 8 }

unfoldable pub placed : List Figures → ℕ → Figures → List Figures
placed t i f = pick (ltb i slots) (set t i f) t

-- the slot that is not in the table
abbrev pub nobody : Figures
nobody = record { period = ticks 0; budget = ticks 0; holds = list (λ r. ticks 0) 8 }

-- the judgement of a newcomer for slot i, in document 01's order: 4, 5, 6, 7, or admitted with its figures
pub judged : List Figures → ℕ → ℕ → ℕ → ℕ → List ℕ → Result Figures Refusal
judged t i l p q hs =
    pick (not (period_fits l p)) (Err PeriodOutOfRange)
    (pick (not (budget_fits p q)) (Err BudgetOutOfRange)
    (pick (not (holds_fit q hs)) (Err HoldAboveBudget)
    (pick (not (passes (placed t i (figures_of p q hs)) l)) (Err TestNotMet) (Ok (figures_of p q hs)))))
