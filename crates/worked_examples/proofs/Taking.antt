-- The windows and the taking call's tables, computed.
-- Assumes nothing.
use mathlib.Core.Path.{refl}
use Rattle.recogniser.specs.Step.{step_of}
use Rattle.frames.specs.Tray.{tray_of}
use Rattle.plans.specs.Plan.{plan_fits}
use Rattle.registers.specs.Sound.{every_from, pointers_fit, missing_zero}
use Rattle.fifos.specs.Fifos.{write_of}
use Rattle.controller.specs.Commands.{act_of}
use Rattle.timing.specs.TooClose.{too_close}
use Rattle.fit_recognisers.specs.Fit.{fit_of}
use Rattle.decoder.specs.Sound.{sound_of}
use Rattle.calls.specs.Turn.{turn_of}
use Rattle.calls.specs.Take.{taken_of, take_of}
use Rattle.image_fields.specs.Image.{image_of, state_of}
use Rattle.worked_examples.specs.WorkedExamples.{WindowExamples, TakingExamples}

pub window_examples : WindowExamples
window_examples = record { listed = record { counted = refl; given = refl }; near = record { counted = refl; given = refl } }

pub taking_examples : TakingExamples
unfolding step_of fit_of tray_of plan_fits every_from pointers_fit missing_zero write_of act_of too_close sound_of turn_of taken_of take_of image_of state_of
taking_examples =
    record {
      marked = record { counted = refl; given = refl };
      chip_gives = record { counted = refl; given = refl };
      commands_give = record { counted = refl; given = refl };
      timing_gives = record { counted = refl; given = refl };
      sound_gives = record { counted = refl; given = refl };
      calls_give = record { counted = refl; given = refl };
      ranges_give = record { counted = refl; given = refl };
      before_gives = record { counted = refl; given = refl };
    }
