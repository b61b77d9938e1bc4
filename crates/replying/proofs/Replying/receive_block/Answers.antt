-- `Replying::receive_block` goes through a block line by line: a turn, and the end.
-- Assumes nothing.
use Rattle.replying.proofs.Parts.{goes_on, stops}
use Rattle.replying.proofs.Replying.receive_block.Goals as goal

pub loop-next-preserved : goal.loop-next-preserved
loop-next-preserved c = goes_on c.loop-next.invariant c.read_on-part.ensures c.receive-state.ensures c.receive-state.auto.buffer

pub returns : goal.returns
returns c = stops c.loop-next.invariant c.is_over.result c.is_over.ensures c.loop-next-test.false
