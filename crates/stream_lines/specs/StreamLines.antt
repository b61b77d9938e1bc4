-- The hexadecimal lines of a composed stream (ours).
-- Assumes nothing.
use Rattle.std.specs.Prelude.{cond, ◌||◌, List, [], ◌∷◌, ◌++◌, ℕ, ◌+◌, eqb}
use Rattle.output.specs.Ascii.{line_feed}
use Rattle.line_meanings.specs.Lines.{is_empty}
use Rattle.hex_digits.specs.Digits.{characters_of}

-- The stream's bytes in lines of 64 digits, 32 bytes each, the last line shorter, behind n bytes of the present line.
unfoldable pub lines_from : ℕ → List ℕ → List ℕ
lines_from n [] = []
lines_from n (b ∷ bs) = characters_of b 2 ++ cond (is_empty bs || eqb n 31) (line_feed ∷ lines_from 0 bs) (lines_from (n + 1) bs)

abbrev pub stream_text : List ℕ → List ℕ
stream_text bytes = lines_from 0 bytes

-- The most bytes of a part of the stream whose text a block holds: 1,008 lines.
abbrev pub part_limit : ℕ
part_limit = 32256
