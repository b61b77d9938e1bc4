-- `reply_runs::reply_input`: however the run ends, it has a status.
-- Assumes nothing.
use Rattle.statuses.proofs.Told.{told_status}
use Rattle.reply_runs.proofs.reply_input.Goals as goal

pub returns : goal.returns
returns c = told_status c.read_reply.result
