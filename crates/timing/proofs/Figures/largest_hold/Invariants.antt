-- After r turns it is the largest of the first r holds.
use Rattle.std.proofs.Common.{◌≡◌}
use Rattle.terms.specs.Words.{largest}
use Rattle.timing.specs.Timing.{hold}
use Rattle.timing.proofs.Figures.largest_hold.Given as goal

abbrev pub invariant-loop-r : goal.invariant-loop-r
invariant-loop-r l = l.most.0 ≡ largest (λ k. (hold l.self k).0) l.r
