-- `judge_runs::judge_input`: however the run ends, it has a status.
-- Assumes nothing.
use Rattle.statuses.proofs.Told.{told_status}
use Rattle.judge_runs.proofs.judge_input.Goals as goal

pub returns : goal.returns
returns c = told_status c.judge.result
