-- Above 7 no bit of eight is set; below, the operator clears the bit.
use Rattle.std.proofs.Common.{arith, rules}
use Rattle.resources.specs.Resources.{without, clear_bit, resources}
use Rattle.resources.proofs.Bits.{no_bit, shifted, and_not_is}
use Rattle.resources.proofs.Set.remove.Goals as goal

pub returns-else-r-lt-RESOURCES : goal.returns-else-r-lt-RESOURCES
unfolding without clear_bit
returns-else-r-lt-RESOURCES c = simp (no_bit resources c.args.self.0 c.args.r (search rules) (omega arith))

pub returns-then-r-lt-RESOURCES : goal.returns-then-r-lt-RESOURCES
unfolding without
returns-then-r-lt-RESOURCES c = let a = c.args in rw (shifted 8 a.r (omega arith), and_not_is 8 a.self.0 a.r (search rules) (omega arith))
