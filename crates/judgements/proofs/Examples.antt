-- The inputs of `accept`, computed.
-- Assumes nothing.
use mathlib.Core.Path.{refl}
use Rattle.patterns.specs.Verdicts.{verdict_from}
use Rattle.line_meanings.specs.Line.{line_meaning}
use Rattle.line_meanings.specs.Lines.{lines_from, lines_read}
use Rattle.line_meanings.specs.Notes.{with_note, with_notes}
use Rattle.hex_digits.specs.Digits.{characters_of}
use Rattle.number_lines.specs.NumberLines.{numbers_line}
use Rattle.judgements.specs.Judgement.{judged_lines, judged_of, text_of}
use Rattle.judgements.specs.Examples.{JudgementExamples}

pub judgement_examples : JudgementExamples
unfolding verdict_from line_meaning lines_from lines_read with_note with_notes characters_of numbers_line judged_lines judged_of text_of
judgement_examples = record { accepted = refl; too_close = refl; unknown = refl; cut = refl; fault_first = refl; refused_first = refl; odd = refl }
