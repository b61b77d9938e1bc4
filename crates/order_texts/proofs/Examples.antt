-- The texts of orders, computed.
-- Assumes nothing.
use mathlib.Core.Path.{refl}
use Rattle.orders.specs.Fields.{order_fits}
use Rattle.orders.specs.Streams.{command_bits, stream_of}
use Rattle.line_meanings.specs.Lines.{lines_from}
use Rattle.text_words.specs.Words.{up_to, words_from, same_word}
use Rattle.text_numbers.specs.Numbers.{number_from, number_of, sized}
use Rattle.text_frames.specs.Frames.{bits_said, frame_of}
use Rattle.command_names.specs.Names.{kind_among}
use Rattle.order_lines.specs.Lines.{fields_meaning, words_meaning}
use Rattle.gathered_lines.specs.Gathering.{line_texts}
use Rattle.hex_digits.specs.Digits.{characters_of}
use Rattle.number_lines.specs.NumberLines.{numbers_line}
use Rattle.stream_lines.specs.StreamLines as stream_lines_lem
use Rattle.order_refusals.specs.Refusals.{order_refusal, meaning_refusal, line_refusal, refusal_in, orders_in}
use Rattle.order_texts.specs.Composed.{written_of, composed_of}
use Rattle.order_texts.specs.Printing.{text_of}
use Rattle.order_texts.specs.Examples.{ComposedExamples}

pub composed_examples : ComposedExamples
unfolding order_fits command_bits stream_of lines_from characters_of numbers_line up_to words_from same_word number_from number_of sized
    kind_among bits_said frame_of fields_meaning words_meaning line_texts order_refusal meaning_refusal line_refusal refusal_in orders_in
    written_of composed_of stream_lines_lem.lines_from text_of
composed_examples = record { fasts = refl; nothing = refl; too_close = refl; frame_bits = refl; unknown = refl }
