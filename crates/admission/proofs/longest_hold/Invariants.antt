-- As far as the loop has come, it is the largest of the holds.
use Rattle.std.proofs.Common.{◌≡◌}
use Rattle.terms.specs.Words.{largest}
use Rattle.admission.specs.Admission.{slot_of}
use Rattle.admission.specs.Steps.{hold_above}
use Rattle.admission.proofs.longest_hold.Given as goal

abbrev pub invariant-loop-f : goal.invariant-loop-f
invariant-loop-f l = l.most.0 ≡ largest (λ k. (hold_above (slot_of l.fn.table k) l.p.0 l.r).0) l.f-index
