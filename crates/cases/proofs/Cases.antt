-- Document 01, "Either side of the line": C1 to C10, one list under one claim. L = 60, server X is P 10, Q 4, H(0) 2.
use Prim.Native.Nat.{ℕ}
use mathlib.Core.Bool.{Bool, true, ◌&&◌}
use mathlib.Core.List.{List, [], ◌∷◌}
use lib.Dec.{T, eqb}
use lib.ListN.{replicate}
use Rattle.terms.specs.Words.{sum, largest, every, some, list}
use Rattle.quantity.specs.Quantity.{at, ticks, length_of, later}
use Rattle.timing.specs.declared.Figures.{Figures}
use Rattle.timing.specs.declared.Life.{Life}
use Rattle.timing.specs.declared.State.TheVariants.{Ready}
use Rattle.timing.specs.declared.Lock.TheVariants.{Free}
use Rattle.timing.specs.Timing.{hold, tr, arrived, asked, lacking}
use Rattle.timing.specs.Timing.Text.{tr_is, replenished_is, arrived_is, asked_is, largest_hold_is}
use Rattle.admission.specs.Admission.{figures_of, judged, placed, period_fits, budget_fits, holds_fit, nobody}
use Rattle.admission.specs.Admission.Text.{load_is, used_is, longest_wait_is, passes_is, judged_is}
use Rattle.std.specs.Prelude.{Result, Ok, Err}
use Rattle.refusals.specs.declared.Refusal.{Refusal}
use Rattle.refusals.specs.Refusals.{number_of}
use Rattle.timing.specs.declared.Ruling.{Ruling}
use Rattle.timing.specs.declared.Ruling.TheVariants as ruling

-- holds of resource 0 alone
abbrev zero_only : ℕ → List ℕ
zero_only h = h ∷ 0 ∷ 0 ∷ 0 ∷ 0 ∷ 0 ∷ 0 ∷ 0 ∷ []

abbrev X : Figures
X = figures_of 10 4 (zero_only 2)

-- the table with X in slot 0
abbrev with_x : List Figures
with_x = X ∷ replicate 15 nobody

-- X with what is left and a deadline
abbrev life : ℕ → ℕ → Life
life q d = record { state = Ready true Free; left = ticks q; deadline = at d }

-- what a judgement says: 0 admitted, or the refusal's number
abbrev number : Result Figures Refusal → ℕ
number (Ok f) = 0
number (Err why) = number_of why

-- of a second server beside X
abbrev second : ℕ → ℕ → ℕ → ℕ
second p q h = number (judged with_x 1 60 p q (zero_only h))

-- what a ruling says: 0 done, the instant until which it is suspended, 21 renewed
abbrev says : Ruling → ℕ
says ruling.Done = 0
says (ruling.Suspended t) = t.0
says ruling.Renewed = 21

cases : List Bool
cases =
    eqb (second 30 9 6) 0
    ∷ eqb (second 30 9 7) 7
    ∷ eqb (second 30 9 6) 0
    ∷ eqb (second 40 9 6) 4
    ∷ eqb (tr X (life 1 10)).0 8
    ∷ eqb (tr X (life 4 10)).0 0
    ∷ eqb (tr X (life 0 10)).0 10
    ∷ eqb (says (asked X (life 1 10) 0 (at 7)).ruling) 8
    ∷ (eqb (says (asked X (life 1 10) 0 (at 8)).ruling) 21 && eqb (asked X (life 1 10) 0 (at 8)).life.deadline.0 18)
    ∷ (eqb (arrived X (life 1 10) (at 9)).life.deadline.0 19 && eqb (asked X (life 1 10) 0 (at 9)).life.deadline.0 18)
    ∷ []

abbrev all : List Bool → Bool
all [] = true
all (b ∷ bs) = b && all bs

claim : T (all cases)
unfolding cases figures_of length_of list hold sum largest every some placed period_fits budget_fits holds_fit lacking later
claim = simp (second, tr_is, replenished_is, arrived_is, asked_is, largest_hold_is, judged_is, passes_is, load_is, longest_wait_is, used_is) tt
