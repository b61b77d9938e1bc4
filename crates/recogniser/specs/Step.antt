-- One cycle of the recogniser, by the phase it stands in.
-- Assumes nothing.
use Rattle.std.specs.Prelude.{cond, ℕ}
use Rattle.recogniser.specs.declared.Phase.{Phase}
use Rattle.recogniser.specs.declared.Phase.TheVariants.{Hunt, Body, Field3, Field4, Field5}
use Rattle.recogniser.specs.declared.Recogniser.{Recogniser}
use Rattle.recogniser.specs.declared.Transition.{Transition}
use Rattle.recogniser.specs.Hunting.{hunt_of, body_of}
use Rattle.slow_fields.specs.Slow.{is_frame}
use Rattle.recogniser.specs.Fields.{field3_of, field4_of, kept_field_of}
use Rattle.recogniser.specs.Groups.{frame_field_of}

abbrev pub field5_of : Recogniser → ℕ → ℕ → Transition
field5_of r bit cnt = cond (is_frame r.command) (frame_field_of r bit cnt) (kept_field_of r bit cnt)

abbrev pub step_by : Phase → Recogniser → ℕ → ℕ → Transition
step_by Hunt r bit cnt = hunt_of r bit
step_by Body r bit cnt = body_of r bit
step_by Field3 r bit cnt = field3_of r bit
step_by Field4 r bit cnt = field4_of r bit cnt
step_by Field5 r bit cnt = field5_of r bit cnt

-- "One cycle, one bit": the recogniser, the bit of this cycle, and CNT as it stands.
unfoldable pub step_of : Recogniser → ℕ → ℕ → Transition
step_of r bit cnt = step_by r.phase r bit cnt
