-- Above 7 there is nothing to put in; below, the operator sets the bit.
use Rattle.std.proofs.Common.{ℕ, ap, arith}
use borrow.Author.Tests.{lt-ltb}
use Rattle.resources.specs.Resources.{with, resources}
use Rattle.resources.proofs.Bits.{shifted, or_is}
use Rattle.resources.proofs.Set.insert.Goals as goal

pub returns-then-r-lt-RESOURCES : goal.returns-then-r-lt-RESOURCES
unfolding with
returns-then-r-lt-RESOURCES c =
    let a = c.args in
    rw (lt-ltb a.r resources (omega arith), shifted 8 a.r (omega arith)) (ap (λ (n : ℕ). record { 0 = n }) (or_is a.self.0 a.r))
