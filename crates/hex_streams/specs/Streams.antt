-- The stream that the hexadecimal lines of an input carry, one after the other (document 01, "Streams with their records").
-- Assumes nothing.
use Rattle.std.specs.Prelude.{ℕ, ◌+◌, ◌*◌, cond, List, [], ◌∷◌, ◌++◌, length, ◌==◌, nat_le}
use Rattle.limits.specs.Limits.{clock_limit}
use Rattle.bits.specs.Bits.{bits_of}
use Rattle.line_meanings.specs.declared.LineNotes.{LineNotes}
use Rattle.line_meanings.specs.Notes.{no_notes}
use Rattle.line_meanings.specs.Lines.{LineRead, lines_of, lines_read, next_line_number}

-- The bits ahead of the first line that is refused, and that line's refusal: its number, 0 for none, the line's number from 1, and its notes.
pub record HexStream : Type 0 where
  pub bits : List ℕ
  pub number : ℕ
  pub line : ℕ
  pub notes : LineNotes

abbrev pub stream_refused : ℕ → ℕ → LineNotes → HexStream
stream_refused number line notes = record { bits = []; number = number; line = line; notes = notes }

-- No more bits, and no refusal.
abbrev pub ended : HexStream
ended = stream_refused 0 0 no_notes

-- Bits ahead of the rest.
abbrev pub ahead : List ℕ → HexStream → HexStream
ahead bits rest = record { bits = bits ++ rest.bits; number = rest.number; line = rest.line; notes = rest.notes }

-- The bits of a line.
abbrev pub bits_of_line : LineRead → List ℕ
bits_of_line line = let bytes = line.meaning.bytes in bits_of bytes 0 (8 * length bytes)

-- The lines, behind so many bits and n lines. A refused line ends the stream; a line whose bits pass the last clock cycle is number 6, as in a listing.
unfoldable pub stream_lines : ℕ → ℕ → List LineRead → HexStream
stream_lines bits n [] = ended
stream_lines bits n (line ∷ lines) =
    let number = line.meaning.number in
    let more = bits_of_line line in
    let m = next_line_number n in
    cond (number == 0)
    (cond (nat_le (bits + length more) clock_limit) (ahead more (stream_lines (bits + length more) m lines)) (stream_refused 6 m no_notes))
    (stream_refused number m line.notes)

-- From all the characters of an input.
unfoldable pub hex_stream_of : List ℕ → HexStream
hex_stream_of characters = stream_lines 0 0 (lines_read (lines_of characters))
