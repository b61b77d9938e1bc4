-- `kernelstill_frame_part` answers the length of the part.
-- Assumes nothing.
use mathlib.Core.Path.{ap}
use lib.ListN.{length}
use Rattle.host_lines.proofs.kernelstill_frame_part.Goals as goal

pub returns : goal.returns
returns c = ap length c.frame_part-part.ensures
