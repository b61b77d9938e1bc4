-- `compose_runs::compose`: the run stands for the characters that were read.
-- Assumes nothing.
use Rattle.std.proofs.Common.{replicate}
use Rattle.compose_runs.proofs.Statuses.{zeros_long, where_ok, begins, composed_from_start}
use Rattle.compose_runs.proofs.compose.Goals as goal

pub read_blocks-requires : goal.read_blocks-requires
read_blocks-requires c =
    begins (replicate 32768 0) (replicate 1048576 0) c.start.ensures (zeros_long 1048576) (replicate 16384 0) (zeros_long 32768) (zeros_long 16384)

pub returns : goal.returns
returns c =
    let read = where_ok c.read_blocks.result c.in_ok-read_blocks.was c.read_blocks.ensures in
    composed_from_start (replicate 32768 0) (replicate 1048576 0) c.start.ensures (zeros_long 1048576) read.1.0 c.end_input-last.ensures
    c.outcome-outcome.ensures c.finish.ensures
