-- `window_with` is the window with the bit shifted in, masked to five bits.
-- Assumes nothing.
use mathlib.Core.Path.{refl}
use Rattle.bits.proofs.Shift.{masked}
use Rattle.windows.proofs.window_with.Goals as goal

pub returns : goal.returns
returns c = masked c.args.window c.args.bit c.requires 5 refl
