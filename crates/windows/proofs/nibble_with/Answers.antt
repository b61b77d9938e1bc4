-- `nibble_with` is the four bits with the bit shifted in.
-- Assumes nothing.
use mathlib.Core.Path.{refl}
use Rattle.bits.proofs.Shift.{masked}
use Rattle.windows.proofs.nibble_with.Goals as goal

pub returns : goal.returns
returns c = masked c.args.nibble c.args.bit c.requires 4 refl
