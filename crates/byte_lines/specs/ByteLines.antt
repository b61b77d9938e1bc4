-- Lines of bytes in digits (document 01, "Streams with their records"; document 02, F-2).
-- Assumes nothing.
use Rattle.std.specs.Prelude.{List, [], ◌∷◌, ◌++◌, ℕ}
use Rattle.output.specs.Ascii.{ascii}
use Rattle.hex_digits.specs.Digits.{characters_of}

-- The digits of bytes, two each.
unfoldable pub byte_digits : List ℕ → List ℕ
byte_digits [] = []
byte_digits (b ∷ bs) = characters_of b 2 ++ byte_digits bs

-- A frame's line: ">" and "its bytes, two digits each, unspaced".
abbrev pub frame_line : List ℕ → List ℕ
frame_line bytes = ascii ">" ++ (byte_digits bytes ++ ascii "\n")

-- A line of a composed stream (document 02, F-2): its bytes, two digits each.
abbrev pub bytes_line : List ℕ → List ℕ
bytes_line bytes = byte_digits bytes ++ ascii "\n"
