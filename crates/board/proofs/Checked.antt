-- A call of a server is refused by the checks that they share, or made in its slot, which is then in the table: by the checks in their order.
use Prim.Native.Nat.{ℕ, ◌<◌}
use mathlib.Core.Path.{◌≡◌}
use mathlib.Core.Bool.{true, not}
use lib.Dec.{leb}
use borrow.Author.Tests.{leb-false, not-false}
use Rattle.std.specs.Prelude.{Result}
use Rattle.terms.proofs.Tests.{by_test}
use Rattle.refusals.specs.declared.Refusal.{Refusal}
use Rattle.refusals.specs.declared.Refusal.TheVariants.{WrongPhase, NotInTable, ServerStopped}
use Rattle.timing.specs.Timing.{is_stopped}
use Rattle.admission.specs.Admission.{slots, in_table}
use Rattle.board.specs.declared.Board.{Board}
use Rattle.board.specs.declared.Outcome.{Outcome}
use Rattle.board.specs.Board.{life_at}
use Rattle.board.specs.Calls.{refuse, standing, checked}

-- what holds of the three refusals, and of what is done in a slot of the table, holds of a call that is checked
pub by_standing : (P : Outcome → Type 0) (b : Board) (i : ℕ) (call : ℕ → Outcome) → P (refuse b WrongPhase) → P (refuse b NotInTable)
    → P (refuse b ServerStopped) → (i < slots → in_table b.table i ≡ true → P (call i)) → P (checked b (standing b i) call)
unfolding standing
by_standing P b i call early absent stopped done =
    by_test Of (not b.running) (λ e. early) (λ e.
    by_test Of (leb slots i) (λ f. absent) (λ f.
    by_test Of (not (in_table b.table i)) (λ g. absent) (λ g.
    by_test Of (is_stopped (life_at b i).state) (λ s. stopped) (λ s. done (leb-false slots i f) (not-false (in_table b.table i) g)))))
  where
    Of : Result ℕ Refusal → Type 0
    Of found = P (checked b found call)
