-- Source document 004, Theorem 2 with equations 2.12 and 2.13, as published: with fractions.
use Rattle.std.specs.Prelude.{ℕ, zero, suc, ◌+◌, ◌*◌, ◌≤◌, Bool, true, false, ◌&&◌, List, leb}
use Rattle.timing.specs.declared.Figures.{Figures}
use Rattle.admission.specs.Admission.{slots, in_table, period_of, budget_of, longest_wait}

pub record Fraction : Type 0 where
  pub over : ℕ
  pub under : ℕ

-- a / b + c / d = (a * d + c * b) / (b * d)
abbrev pub plus : Fraction → Fraction → Fraction
plus x y = record { over = x.over * y.under + y.over * x.under; under = x.under * y.under }

abbrev pub AtMostOne : Fraction → Type 0
AtMostOne x = x.over ≤ x.under

-- a fraction that counts only where a test holds
abbrev pub when_counts : Bool → Fraction → Fraction
when_counts true x = x
when_counts false x = record { over = 0; under = 1 }

unfoldable pub total : (ℕ → Fraction) → ℕ → Fraction
total f zero = record { over = 0; under = 1 }
total f (suc n) = plus (total f n) (f n)

-- alpha_i = Q_i / P_i
abbrev pub alpha : List Figures → ℕ → Fraction
alpha t i = record { over = budget_of t i; under = period_of t i }

-- equation 2.13 for k: the sum of alpha_i over P_i <= P_k, plus B_k / P_k, is at most 1
unfoldable pub Holds : List Figures → ℕ → Type 0
Holds t k =
    AtMostOne (plus (total (λ i. when_counts (in_table t i && leb (period_of t i) (period_of t k)) (alpha t i)) slots)
    (record { over = longest_wait t (period_of t k); under = period_of t k }))
