-- The texts' tables, computed.
-- Assumes nothing.
use mathlib.Core.Path.{refl}
use Rattle.line_meanings.specs.Line.{line_meaning}
use Rattle.hex_digits.specs.Digits.{characters_of}
use Rattle.byte_lines.specs.ByteLines.{byte_digits}
use Rattle.number_lines.specs.NumberLines.{numbers_line}
use Rattle.image_fields.specs.Image.{state_of}
use Rattle.listing.specs.Records.{record_text, records_text}
use Rattle.state_listing.specs.State.{texts_from, state_text}
use Rattle.host_examples.specs.HostExamples.{TextExamples}

pub text_examples : TextExamples
unfolding line_meaning characters_of numbers_line byte_digits state_of record_text records_text texts_from state_text
text_examples = record { printed = record { counted = refl; given = refl }; read = record { counted = refl; given = refl } }
