-- Lines of the state, computed from the definitions.
-- Assumes nothing.
use mathlib.Core.Bool.{true}
use mathlib.Core.List.{◌++◌}
use mathlib.Core.Path.{◌≡◌, refl}
use Rattle.output.specs.Ascii.{ascii}
use Rattle.hex_digits.specs.Digits.{characters_of}
use Rattle.number_lines.specs.NumberLines.{numbers_line}
use Rattle.state_lines.specs.StateLines.{register_line, l1id_line, base_line, runmode_line, pointers_line, word_line}

pub state : register_line 2 0x7F ++ l1id_line 0xA ++ base_line 0x28 ++ runmode_line true ++ pointers_line 15 127 0 ++ word_line 15 127 0x7FFFFFF
    ≡ ascii "register 2 007F\nl1id 0A\nbase 000000000028\nrunmode 1\npointers F 7F 00\nword F 7F 07FFFFFF\n"
unfolding numbers_line characters_of
state = refl
