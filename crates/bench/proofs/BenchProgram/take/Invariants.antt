-- Each step goes on in the block.
use Rattle.std.proofs.Common.{◌-◌, length}
use Rattle.bench.proofs.BenchProgram.take.Given as goal

abbrev pub decreases-loop-at : goal.decreases-loop-at
decreases-loop-at l = length l.block - l.at
