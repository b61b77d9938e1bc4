-- `judge_runs::judge`: the run stands for the characters that were read.
-- Assumes nothing.
use Rattle.judge_runs.proofs.Statuses.{judged_from_start}
use Rattle.judge_runs.proofs.judge.Goals as goal

pub returns : goal.returns
returns c =
    let read = rw c.in_ok-read_blocks.was at c.read_blocks.ensures in
    judged_from_start c.start.ensures read.1 c.end_input.ensures c.finish.ensures
