-- A frame's line, computed from the definitions.
-- Assumes nothing.
use mathlib.Core.List.{[], ◌∷◌}
use mathlib.Core.Path.{◌≡◌, refl}
use Rattle.output.specs.Ascii.{ascii}
use Rattle.hex_digits.specs.Digits.{characters_of}
use Rattle.byte_lines.specs.ByteLines.{byte_digits, frame_line}

pub frame : frame_line (0x0F ∷ 0xA0 ∷ []) ≡ ascii ">0FA0\n"
unfolding byte_digits characters_of
frame = refl
