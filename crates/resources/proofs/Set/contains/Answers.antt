-- Above 7 no bit of eight is set; below, the operator picks the bit.
use Rattle.std.proofs.Common.{arith, rules}
use borrow.Author.Tests.{le-ltb}
use Rattle.resources.specs.Resources.{has, resources}
use Rattle.resources.proofs.Bits.{no_bit, shifted, and_is}
use Rattle.resources.proofs.Set.contains.Goals as goal

pub returns-else-r-lt-RESOURCES : goal.returns-else-r-lt-RESOURCES
unfolding has
returns-else-r-lt-RESOURCES c =
    let a = c.args in
    rw (le-ltb _ _ c.if-r-lt-RESOURCES.false, no_bit resources a.self.0 a.r (search rules) (omega arith))

pub returns-then-r-lt-RESOURCES : goal.returns-then-r-lt-RESOURCES
unfolding has
returns-then-r-lt-RESOURCES c = rw (shifted 8 c.args.r (omega arith)) (and_is _ _)
