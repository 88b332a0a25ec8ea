-- It is the least period of the users among the slots that the loop has passed.
use Rattle.std.proofs.Common.{◌≡◌}
use Rattle.admission.specs.Admission.{slot_of}
use Rattle.board.specs.Board.{lowest}
use Rattle.board.specs.Steps.{user_ceiling}
use Rattle.board.proofs.Board.ceiling_of.Given as goal

abbrev pub invariant-loop-f : goal.invariant-loop-f
invariant-loop-f l = l.c ≡ lowest (λ k. user_ceiling (slot_of l.fn.self.table k) l.r) l.f-index
