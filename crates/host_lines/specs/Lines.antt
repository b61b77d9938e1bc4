-- Hexadecimal lines in and a record's line out, in buffers of any length.
-- Assumes nothing.
use Rattle.std.specs.Prelude.{cond, List, ℕ, leb, length}
use Rattle.std.proofs.lemmas.List.Edits.{sets}
use Rattle.line_meanings.specs.Line.{read_into}
use Rattle.layout.specs.ListingLines.{record_line}

-- A refusal number, 0 for none, and the buffer's later contents.
pub record LineResult : Type 0 where
  pub number : ℕ
  pub bytes : List ℕ

abbrev pub line_result : ℕ → List ℕ → LineResult
line_result number bytes = record { number = number; bytes = bytes }

-- A line's bytes stand at the buffer's start; a refused line has none. A buffer of fewer than 32 bytes is number 4.
abbrev pub hex_result_of : List ℕ → List ℕ → LineResult
hex_result_of line bytes =
    let read = read_into line bytes in
    line_result read.number read.buffer

-- A record's line at the buffer's start; number 4 where it has no room.
unfoldable pub record_result_of : ℕ → ℕ → List ℕ → LineResult
record_result_of head value line =
    cond (leb (length (record_line head value)) (length line))
    (line_result 0 (sets line 0 (record_line head value)))
    (line_result 4 line)
