-- The tables of what commands do, computed.
-- Assumes nothing.
use mathlib.Core.Path.{refl}
use Rattle.recogniser.specs.Step.{step_of}
use Rattle.frames.specs.Tray.{tray_of}
use Rattle.plans.specs.Plan.{plan_fits}
use Rattle.registers.specs.Sound.{every_from, pointers_fit, missing_zero}
use Rattle.fifos.specs.Fifos.{write_of}
use Rattle.controller.specs.Commands.{act_of}
use Rattle.timing.specs.TooClose.{too_close}
use Rattle.fit_recognisers.specs.Fit.{fit_of}
use Rattle.decoder.specs.Sound.{sound_of}
use Rattle.calls.specs.Turn.{turn_of}
use Rattle.calls.specs.Take.{taken_of, take_of}
use Rattle.image_fields.specs.Image.{image_of, state_of}
use Rattle.effect_examples.specs.EffectExamples.{EffectExamples}

pub effect_examples_lem : EffectExamples
unfolding step_of fit_of tray_of plan_fits every_from pointers_fit missing_zero write_of act_of too_close sound_of turn_of taken_of take_of image_of state_of
effect_examples_lem =
    record {
      registers_give = record { counted = refl; given = refl };
      fifos_give = record { counted = refl; given = refl };
      counters_give = record { counted = refl; given = refl };
      frames_give = record { counted = refl; given = refl };
      effects_give = record { counted = refl; given = refl };
      parts_give = record { parts = refl; front_end = refl; front_end_read = refl; receiver = refl };
    }
