-- The longest front-end frame, computed.
-- Assumes nothing.
use mathlib.Core.Path.{refl}
use Rattle.recogniser.specs.Step.{step_of}
use Rattle.longest_frame.specs.LongestFrame.{LongestFrame}

pub longest_frame_lem : LongestFrame
unfolding step_of
longest_frame_lem = record { cycles = refl; stored = refl; bytes = refl }
