-- The lines of the examples, computed.
-- Assumes nothing.
use mathlib.Core.Path.{refl}
use Rattle.text_words.specs.Words.{up_to, words_from, same_word}
use Rattle.text_numbers.specs.Numbers.{number_from, number_of, sized}
use Rattle.text_frames.specs.Frames.{bits_said, frame_of}
use Rattle.command_names.specs.Names.{kind_among}
use Rattle.order_lines.specs.Lines.{fields_meaning, words_meaning}
use Rattle.order_lines.specs.Examples.{LineExamples}

pub line_examples : LineExamples
unfolding up_to words_from same_word number_from number_of sized kind_among bits_said frame_of fields_meaning words_meaning
line_examples = record {
  comment = refl;
  name = refl;
  zeros = refl;
  register = refl;
  word = refl;
  counted = refl;
  digits = refl;
  no_bits = refl;
  long = refl;
  upper_case = refl;
  too_few = refl;
  too_many = refl;
  too_large = refl;
  no_number = refl;
  few_digits = refl;
}
