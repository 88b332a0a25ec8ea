-- What the judgement of a newcomer states: by its tests, in their order.
use Rattle.std.specs.Prelude.{ℕ, ◌*◌, ◌/◌, ◌%◌, ◌<◌, ◌≤◌, ◌≡◌, Bool, not, ◌&&◌, List, leb, get_or, Result, Ok, Err}
use Rattle.std.proofs.Math.Path.{refl}
use Rattle.std.proofs.Common.{ap, ◌∙◌, arith, div-add-mod'}
use Rattle.std.proofs.Math.Bool.{true, false}
use Rattle.std.proofs.Math.Decide.{dec_le}
use Rattle.std.proofs.Math.Dec.{eqb}
use borrow.Author.Tests.{leb-true, eqb-true}
use Rattle.terms.specs.Words.{pick}
use Rattle.terms.proofs.Over.{every_out, list_at}
use Rattle.terms.proofs.Tests.{and_left, and_right}
use Rattle.quantity.specs.declared.Length.{Length}
use Rattle.quantity.specs.Quantity.{ticks, length_of, longest_period, longest_length}
use Rattle.quantity.proofs.Laws.{length_of_exact}
use Rattle.timing.specs.declared.Figures.{Figures}
use Rattle.timing.specs.Timing.{hold, Ranged}
use Rattle.timing.specs.Timing.Laws.{hold_inside, hold_outside}
use Rattle.refusals.specs.declared.Refusal.{Refusal}
use Rattle.refusals.specs.declared.Refusal.TheVariants.{PeriodOutOfRange, BudgetOutOfRange, HoldAboveBudget, TestNotMet}
use Rattle.admission.specs.Admission.{passes, period_fits, budget_fits, holds_fit, figures_of, placed, judged}

-- a period that fits is in its range and divides the frame; a budget and holds that fit are in theirs
module _ (l p : ℕ) (e : period_fits l p ≡ true) where
  period_low : 1 ≤ p
  unfolding period_fits
  period_low = leb-true 1 p (and_left (leb 1 p) (leb p longest_period && eqb (l % p) 0) e)

  period_rest : (leb p longest_period && eqb (l % p) 0) ≡ true
  unfolding period_fits
  period_rest = and_right (leb 1 p) (leb p longest_period && eqb (l % p) 0) e

  period_high : p ≤ longest_period
  period_high = leb-true p longest_period (and_left (leb p longest_period) (eqb (l % p) 0) period_rest)

  period_divides : l / p * p ≡ l
  period_divides = omega (arith, div-add-mod' l p, eqb-true (l % p) 0 (and_right (leb p longest_period) (eqb (l % p) 0) period_rest))

module _ (p q : ℕ) (e : budget_fits p q ≡ true) where
  budget_low : 1 ≤ q
  unfolding budget_fits
  budget_low = leb-true 1 q (and_left (leb 1 q) (leb q p) e)

  budget_high : q ≤ p
  unfolding budget_fits
  budget_high = leb-true q p (and_right (leb 1 q) (leb q p) e)

holds_high : (q : ℕ) (hs : List ℕ) → holds_fit q hs ≡ true → (r : ℕ) → r < 8 → get_or hs r 0 ≤ q
unfolding holds_fit
holds_high q hs e r h = leb-true (get_or hs r 0) q (every_out (λ r. leb (get_or hs r 0) q) 8 e r h)

-- what a newcomer is that is admitted
pub record Admitted (t : List Figures) (i l p q : ℕ) (hs : List ℕ) (f : Figures) : Type 0 where
  -- nothing was cut: the figures that are kept are those that were given
  pub period_is : f.period ≡ ticks p
  pub budget_is : f.budget ≡ ticks q
  pub hold_is : (r : ℕ) → r < 8 → hold f r ≡ ticks (get_or hs r 0)
  -- they are in document 01's ranges, and the period divides the frame
  pub ranged : Ranged f
  pub divides : l / f.period.0 * f.period.0 ≡ l
  -- and the table with it passes the test
  pub passed : passes (placed t i f) l ≡ true

module _ (p q : ℕ) (hs : List ℕ) where
  kept_period : p ≤ longest_length → (figures_of p q hs).period ≡ ticks p
  unfolding figures_of
  kept_period h = length_of_exact p h

  kept_budget : q ≤ longest_length → (figures_of p q hs).budget ≡ ticks q
  unfolding figures_of
  kept_budget h = length_of_exact q h

  kept_at : (r : ℕ) → r < 8 → get_or (figures_of p q hs).holds r (ticks 0) ≡ length_of (get_or hs r 0)
  unfolding figures_of
  kept_at r h = list_at (λ r. length_of (get_or hs r 0)) 8 r (ticks 0) h

  kept_hold : (r : ℕ) → r < 8 → get_or hs r 0 ≤ longest_length → hold (figures_of p q hs) r ≡ ticks (get_or hs r 0)
  kept_hold r h k = hold_inside (figures_of p q hs) r h ∙ kept_at r h ∙ length_of_exact _ k

module _ (t : List Figures) (i l p q : ℕ) (hs : List ℕ) where
  -- all four tests are met
  tests : period_fits l p ≡ true → budget_fits p q ≡ true → holds_fit q hs ≡ true → passes (placed t i (figures_of p q hs)) l ≡ true
      → Admitted t i l p q hs (figures_of p q hs)
  tests a b c d =
      let high = period_high l p a in
      let ql = budget_low p q b in
      let qh = budget_high p q b in
      let ph = kept_period p q hs (omega arith) in
      let bh = kept_budget p q hs (omega arith) in
      let f = figures_of p q hs in
      let pn = ap (λ (n : Length). n.0) ph in
      let bn = ap (λ (n : Length). n.0) bh in
      let low : (r : ℕ) → r < 8 → hold f r ≡ ticks (get_or hs r 0) = λ r h. kept_hold p q hs r h (omega (arith, holds_high q hs c r h)) in
      record {
        period_is = ph;
        budget_is = bh;
        hold_is = low;
        ranged = record {
          period_low = omega (arith, period_low l p a);
          period_high = omega arith;
          budget_low = omega arith;
          budget_high = omega arith;
          holds_high = λ r. each r (dec_le 8 r) bn low;
        };
        divides = ap (λ (n : ℕ). l / n * n) pn ∙ period_divides l p a;
        passed = d;
      }
    where
      each : (r : ℕ) → Dec (8 ≤ r) → (figures_of p q hs).budget.0 ≡ q → ((r : ℕ) → r < 8 → hold (figures_of p q hs) r ≡ ticks (get_or hs r 0))
          → (hold (figures_of p q hs) r).0 ≤ (figures_of p q hs).budget.0
      each r (yes h) bn low = omega (arith, ap (λ (n : Length). n.0) (hold_outside (figures_of p q hs) r h))
      each r (no z) bn low = omega (arith, ap (λ (n : Length). n.0) (low r (omega arith)), holds_high q hs c r (omega arith))

  -- the judgement says 4, 5, 6 or 7 and nothing else, or the newcomer is admitted with its figures
  pub data Judgement : Result Figures Refusal → Type 0 where
    broken_4 : period_fits l p ≡ false → Judgement (Err PeriodOutOfRange)
    broken_5 : period_fits l p ≡ true → budget_fits p q ≡ false → Judgement (Err BudgetOutOfRange)
    broken_6 : period_fits l p ≡ true → budget_fits p q ≡ true → holds_fit q hs ≡ false → Judgement (Err HoldAboveBudget)
    broken_7 : period_fits l p ≡ true → budget_fits p q ≡ true → holds_fit q hs ≡ true → passes (placed t i (figures_of p q hs)) l ≡ false → Judgement (Err TestNotMet)
    admitted : Admitted t i l p q hs (figures_of p q hs) → Judgement (Ok (figures_of p q hs))

  pub judgement : Judgement (judged t i l p q hs)
  unfolding judged
  judgement = go (period_fits l p) (budget_fits p q) (holds_fit q hs) (passes (placed t i (figures_of p q hs)) l) refl refl refl refl
    where
      go : (a b c d : Bool) → period_fits l p ≡ a → budget_fits p q ≡ b → holds_fit q hs ≡ c → passes (placed t i (figures_of p q hs)) l ≡ d
          → Judgement (pick (not a) (Err PeriodOutOfRange) (pick (not b) (Err BudgetOutOfRange) (pick (not c) (Err HoldAboveBudget) (pick (not d) (Err TestNotMet) (Ok (figures_of p q hs))))))
      go false b c d e₁ e₂ e₃ e₄ = broken_4 e₁
      go true false c d e₁ e₂ e₃ e₄ = broken_5 e₁ e₂
      go true true false d e₁ e₂ e₃ e₄ = broken_6 e₁ e₂ e₃
      go true true true false e₁ e₂ e₃ e₄ = broken_7 e₁ e₂ e₃ e₄
      go true true true true e₁ e₂ e₃ e₄ = admitted (tests e₁ e₂ e₃ e₄)
