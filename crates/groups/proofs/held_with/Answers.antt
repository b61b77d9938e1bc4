-- `held_with` shifts the bit in.
-- Assumes nothing.
use Rattle.bits.proofs.Shift.{joined}
use Rattle.groups.proofs.held_with.Goals as goal

pub returns : goal.returns
returns c = joined c.args.group c.args.bit c.requires
