-- Streams with several inverted bits, in numbers: computed.
-- Assumes nothing.
use mathlib.Core.Path.{refl}
use Rattle.recogniser.specs.Step.{step_of}
use Rattle.timing.specs.TooClose.{too_close}
use Rattle.damage.specs.Traces.{requests_of}
use Rattle.damage.specs.Records.{performed}
use Rattle.damage.specs.HitTable.{HitExamples}

pub hit_examples : HitExamples
unfolding step_of requests_of performed too_close
hit_examples = refl
