-- Lines of document 01 and some others, computed from the definitions.
-- Assumes nothing.
use mathlib.Core.List.{◌++◌}
use mathlib.Core.Path.{◌≡◌, refl}
use Rattle.output.specs.Ascii.{ascii}
use Rattle.hex_digits.specs.Digits.{characters_of}
use Rattle.number_lines.specs.NumberLines.{numbers_line}
use Rattle.layout.specs.ListingLines.{record_line, refused_line}

-- "Input lines B5C074 and E0B080 print, whole": the four records by their words.
pub listing : record_line 0x102801 0 ++ record_line 0x150105 0x15 ++ record_line 0x1C0107 0x5011C ++ record_line 0x281101 0
    ≡ ascii "000000000010 28 01 00000000\n000000000015 01 05 00000015\n00000000001C 01 07 0005011C\n000000000028 11 01 00000000\n"
unfolding numbers_line characters_of
listing = refl

pub refusal : refused_line 7 27 ≡ ascii "!07 0000001B\n"
unfolding numbers_line characters_of
refusal = refl
