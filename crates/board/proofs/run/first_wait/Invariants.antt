-- It is the first instant that the slots wait for that the loop has passed.
use Rattle.std.proofs.Common.{◌≡◌}
use Rattle.board.specs.Steps.{wait_of}
use Rattle.board.proofs.run.first_wait.Given as goal

abbrev pub invariant-loop-l : goal.invariant-loop-l
invariant-loop-l l = l.wait ≡ wait_of l.fn.lives l.l-index
