-- It is the best of the slots that the loop has passed.
use Rattle.std.proofs.Common.{◌≡◌, ◌<◌, Bool}
use Rattle.std.specs.Prelude.{Some}
use Rattle.board.specs.declared.Best.{Best}
use Rattle.board.specs.Steps.{Tests, best_of}
use Rattle.board.proofs.Board.first.Given as goal

abbrev pub invariant-loop-slot : goal.invariant-loop-slot
invariant-loop-slot g l =
    ((started : Bool) → Tests (goal.F-post g l.stands) started → l.best ≡ best_of l.fn.self started l.slot)
    × ((p : Best) → l.best ≡ Some p → p.slot < l.slot)
