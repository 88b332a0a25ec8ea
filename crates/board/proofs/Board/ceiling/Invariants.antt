-- After r turns the bits left are the locked number without its r lowest, and the ceiling is that of the locked among the first r.
use Rattle.std.proofs.Common.{◌/◌, ◌^◌, ◌≤◌, ◌-◌, ◌≡◌}
use Rattle.std.specs.Prelude.{None}
use Rattle.terms.specs.Words.{pick}
use Rattle.resources.specs.Resources.{has}
use Rattle.board.specs.Board.{lowest, ceiling_of}
use Rattle.board.proofs.Board.ceiling.Given as goal

abbrev pub invariant-loop-bits : goal.invariant-loop-bits
invariant-loop-bits l = (l.r ≤ 8) × (l.bits ≡ l.self.locked.0 / 2 ^ l.r) × (l.c ≡ lowest (λ k. pick (has l.self.locked k) (ceiling_of l.self k) None) l.r)

abbrev pub decreases-loop-bits : goal.decreases-loop-bits
decreases-loop-bits l = 8 - l.r
