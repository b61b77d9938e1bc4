-- `runs::list_input`: however the run ends, it has a status.
-- Assumes nothing.
use Rattle.statuses.proofs.Told.{told_status}
use Rattle.runs.proofs.list_input.Goals as goal

pub returns : goal.returns
returns c = told_status c.list.result
