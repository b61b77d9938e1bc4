-- `frames::keep` meets its contract, by the cases of the frame bit.
-- Assumes nothing.
use Rattle.frames.specs.Tray.{tray_of}
use Rattle.frames.proofs.keep.Goals as goal

pub returns-in-None : goal.returns-in-None
unfolding tray_of
returns-in-None c = simp c.in-None.is

pub returns-in-At : goal.returns-in-At
unfolding tray_of
returns-in-At c =
    let stored = c in
    simp (stored.in-At.is, stored.store_bit.ensures)
