-- As far as the loop has come, it is the largest of the waits.
use Rattle.std.proofs.Common.{◌≡◌}
use Rattle.terms.specs.Words.{largest}
use Rattle.admission.specs.Steps.{wait_for}
use Rattle.admission.proofs.longest_wait.Given as goal

abbrev pub invariant-loop-r : goal.invariant-loop-r
invariant-loop-r l = l.most.0 ≡ largest (λ k. (wait_for l.table l.p.0 k).0) l.r
