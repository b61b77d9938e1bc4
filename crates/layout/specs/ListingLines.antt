-- The lines of numbers of the listing, as bytes (document 01, "Streams with their records": the station program).
-- Assumes nothing.
use Rattle.std.specs.Prelude.{List, [], ◌∷◌, ℕ, ◌/◌, ◌%◌}
use Rattle.output.specs.Ascii.{ascii}
use Rattle.number_lines.specs.NumberLines.{line_of}

-- A record's line from its two words: "time (12 digits), kind (2), flags (2), value (8), parted by spaces".
abbrev pub record_line : ℕ → ℕ → List ℕ
record_line head value =
    line_of [] (head / 65536 ∷ head / 256 % 256 ∷ head % 256 ∷ value ∷ []) (12 ∷ 2 ∷ 2 ∷ 8 ∷ [])

-- A refused line prints "!", "the number in two digits, a space, the line's number from 1 in eight".
abbrev pub refused_line : ℕ → ℕ → List ℕ
refused_line number line = line_of (ascii "!") (number ∷ line ∷ []) (2 ∷ 8 ∷ [])

-- A pattern at fault (document 02, F-8) prints the same with its place, in the digits of a time.
abbrev pub fault_line : ℕ → ℕ → List ℕ
fault_line number place = line_of (ascii "!") (number ∷ place ∷ []) (2 ∷ 12 ∷ [])
