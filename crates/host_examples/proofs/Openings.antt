-- The openings' table, computed.
-- Assumes nothing.
use mathlib.Core.Path.{refl}
use Rattle.plans.specs.Plan.{plan_fits}
use Rattle.decoder.specs.Opening.{open_of}
use Rattle.image_fields.specs.Image.{image_of}
use Rattle.host_opening.specs.Open.{open_result_of}
use Rattle.host_examples.specs.HostExamples.{OpeningExamples}

pub opening_examples : OpeningExamples
unfolding plan_fits open_of image_of open_result_of
opening_examples = record { openings_give = record { counted = refl; given = refl } }
