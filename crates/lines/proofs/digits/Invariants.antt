-- As far as the loop has come, the digits that are left come to the same number.
use Rattle.std.proofs.Common.{◌≡◌, drop}
use Rattle.lines.specs.Steps.{pushed_all}
use Rattle.lines.proofs.digits.Given as goal

abbrev pub invariant-loop-byte : goal.invariant-loop-byte
invariant-loop-byte l = pushed_all l.n (drop l.byte-index l.s) ≡ pushed_all 0 l.s
