-- The table of verdicts, computed.
-- Assumes nothing.
use mathlib.Core.Path.{refl}
use Rattle.patterns.specs.VerdictTable.{VerdictExamples}
use Rattle.patterns.specs.Verdicts.{verdict_from}

pub verdict_examples : VerdictExamples
unfolding verdict_from
verdict_examples = (refl, refl)
