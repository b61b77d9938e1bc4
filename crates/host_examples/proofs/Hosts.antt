-- The library for hosts in numbers, computed.
-- Assumes nothing.
use mathlib.Core.Path.{refl}
use Rattle.recogniser.specs.Step.{step_of}
use Rattle.frames.specs.Tray.{tray_of}
use Rattle.plans.specs.Plan.{plan_fits}
use Rattle.registers.specs.Sound.{every_from, pointers_fit, missing_zero}
use Rattle.controller.specs.Commands.{act_of}
use Rattle.timing.specs.TooClose.{too_close}
use Rattle.fit_recognisers.specs.Fit.{fit_of}
use Rattle.decoder.specs.Opening.{open_of}
use Rattle.decoder.specs.Sound.{sound_of}
use Rattle.calls.specs.Turn.{turn_of}
use Rattle.calls.specs.Take.{taken_of, take_of}
use Rattle.line_meanings.specs.Line.{line_meaning, read_of, read_into}
use Rattle.hex_digits.specs.Digits.{characters_of}
use Rattle.number_lines.specs.NumberLines.{numbers_line}
use Rattle.image_fields.specs.Image.{image_of, state_of, image_fits}
use Rattle.host_opening.specs.Open.{open_result_of}
use Rattle.host_results.specs.Take.{take_result_of}
use Rattle.host_lines.specs.Lines.{record_result_of}
use Rattle.host_examples.specs.HostTable.{HostImage, HostBuffers}
use Rattle.host_examples.specs.HostExamples.{HostExamples}

host_image : HostImage
unfolding image_of state_of
host_image = record { image_is = refl; reads_as = refl; phases_are = refl }

host_buffers : HostBuffers
unfolding plan_fits open_of open_result_of line_meaning read_of read_into characters_of numbers_line record_result_of
host_buffers =
    record {
      open_length = refl;
      open_number = refl;
      hex_room = refl;
      hex_read = refl;
      hex_refused = refl;
      line_room = refl;
      line_written = refl;
    }

pub host_examples_lem : HostExamples
unfolding step_of fit_of tray_of plan_fits every_from pointers_fit missing_zero act_of too_close sound_of turn_of taken_of take_of image_of state_of image_fits take_result_of
host_examples_lem = record { hosts_give = record { counted = refl; given = refl }; image = host_image; buffers = host_buffers }
