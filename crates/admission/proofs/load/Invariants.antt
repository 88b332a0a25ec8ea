-- As far as the loop has come, the sum is that of the parts, up to where it is enough.
use Rattle.std.proofs.Common.{min, ◌≡◌}
use Rattle.terms.specs.Words.{sum as sum_of}
use Rattle.admission.specs.Admission.{slot_of}
use Rattle.admission.specs.Steps.{enough, counted_in}
use Rattle.admission.proofs.load.Given as goal

abbrev pub invariant-loop-f : goal.invariant-loop-f
invariant-loop-f l = l.sum ≡ min (sum_of (λ k. counted_in (slot_of l.fn.table k) l.frame.0 l.p.0) l.f-index) enough
