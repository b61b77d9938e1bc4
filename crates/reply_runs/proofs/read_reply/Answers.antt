-- `reply_runs::read_reply`: the run stands for the characters that were read.
-- Assumes nothing.
use Rattle.reply_runs.proofs.Statuses.{replied_from_start}
use Rattle.reply_runs.proofs.read_reply.Goals as goal

pub returns : goal.returns
returns c =
    let read = rw c.in_ok-read_blocks.was at c.read_blocks.ensures in
    replied_from_start c.requires c.start.ensures read.1 c.end_input-state.ensures c.finish.ensures
