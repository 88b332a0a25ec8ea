-- As far as the loop has come, the servers before it are read.
use Rattle.std.proofs.Common.{◌≡◌}
use Rattle.sheet.specs.Sheet.{accepted, read_first}
use Rattle.sheet.proofs.read_first.Given as goal

abbrev pub invariant-loop-i : goal.invariant-loop-i
invariant-loop-i l = read_first l.sheet l.i ≡ accepted l.board
