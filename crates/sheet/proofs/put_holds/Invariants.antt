-- As far as the loop has come, the holds stand one behind the other.
use Rattle.std.proofs.Common.{◌≡◌, length}
use Rattle.fields.specs.Numbers.{placed}
use Rattle.sheet.specs.Sheet.{holds_of}
use Rattle.sheet.proofs.put_holds.Given as goal

abbrev pub invariant-loop-r : goal.invariant-loop-r
invariant-loop-r l = (length l.buffer ≡ length l.initial.buffer) × (l.buffer ≡ placed l.initial.buffer l.at (holds_of l.f l.r))
