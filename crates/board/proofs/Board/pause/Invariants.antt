-- The board at the instant that the loop has come to: what is left to run from there is what was left at the beginning.
use Rattle.std.proofs.Common.{◌-◌, ◌≤◌, ◌≡◌}
use Rattle.board.specs.declared.Reason.TheVariants.{Whole}
use Rattle.board.specs.Run.{ran_from}
use Rattle.board.proofs.Stays.{moved}
use Rattle.board.proofs.Board.pause.Given as goal

abbrev pub invariant-loop-pauses : goal.invariant-loop-pauses
invariant-loop-pauses l = (l.pauses ≤ l.n) × (l.reason ≡ Whole) × (ran_from (moved l.self l.now) l.pauses (l.n - l.pauses) ≡ ran_from l.self 0 l.n)

abbrev pub decreases-loop-pauses : goal.decreases-loop-pauses
decreases-loop-pauses l = l.n - l.pauses
