-- A block more: what was read is what the program took.
use Rattle.std.proofs.Common.{◌++◌, take}
use Rattle.std.proofs.KnownBytes.{Appends-trans, Consumes-trans}
use Rattle.input.proofs.serve.Goals as goal

pub loop-preserved : goal.loop-preserved
loop-preserved g c =
    let (moved, read, written) = c.loop.invariant in
    (moved ++ take c.in-Ok.n c.read.new.buf, Consumes-trans _ _ _ _ _ read c.in-Ok.ensures.bytes.0, Appends-trans _ _ _ _ _ written c.in_ok-take-in-Ok.ensures)
