-- As far as the loop has come, the fields of the slots stand one behind the other.
use Rattle.std.proofs.Common.{◌+◌, ◌≡◌, length}
use Rattle.fields.specs.Numbers.{placed}
use Rattle.fields.specs.Form.{servers_of}
use Rattle.sheet.specs.Sheet.{bodies_of}
use Rattle.sheet.proofs.put_servers.Given as goal

abbrev pub invariant-loop-f : goal.invariant-loop-f
invariant-loop-f l =
    (length l.buffer ≡ length l.initial.buffer) × (l.at ≡ 7 + length (servers_of 2 (bodies_of l.fn.table l.f-index)))
    × (l.buffer ≡ placed l.initial.buffer 7 (servers_of 2 (bodies_of l.fn.table l.f-index)))
