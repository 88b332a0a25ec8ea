-- The board with the life and the instant that the loop has come to: what is left to run from there is what was left at the beginning.
use Rattle.std.proofs.Common.{◌-◌, ◌≤◌, ◌≡◌}
use Rattle.std.specs.Prelude.{Some}
use Rattle.board.specs.declared.Reason.TheVariants.{Whole}
use Rattle.board.specs.Board.{named}
use Rattle.board.specs.Run.{ran_from}
use Rattle.board.proofs.Loop.{worked_to}
use Rattle.board.proofs.Board.work.Given as goal

abbrev pub invariant-loop-ticks : goal.invariant-loop-ticks
invariant-loop-ticks l = (l.ticks ≤ l.n) × (l.reason ≡ Whole) × (named (worked_to l.self l.slot l.life l.now) ≡ Some l.slot) × (ran_from (worked_to l.self l.slot l.life l.now) l.ticks (l.n - l.ticks) ≡ ran_from l.self 0 l.n)

abbrev pub decreases-loop-ticks : goal.decreases-loop-ticks
decreases-loop-ticks l = l.n - l.ticks
