-- Lines of document 01 and some others, computed from the definitions.
-- Assumes nothing.
use mathlib.Core.List.{List, [], ◌∷◌, ◌++◌}
use mathlib.Core.Path.{◌≡◌, refl}
use Prim.Native.Char.{code}
use Prim.Native.Nat.{ℕ}
use lib.ListN.{replicate}
use Rattle.output.specs.Ascii.{ascii}
use Rattle.line_meanings.specs.Line.{line_meaning, refused}
use Rattle.line_meanings.specs.Notes.{with_note, with_notes}
use Rattle.line_meanings.specs.Lines.{lines_from, lines_of, LineRead, lines_read, empty_line, with_character, answer_of, meaning_so_far, read_from}

abbrev fit : List ℕ → ℕ → LineRead
fit bytes length = record { meaning = record { number = 0; bytes = bytes }; notes = record { length = length; place = 0; character = 0 } }

abbrev unfit : ℕ → ℕ → ℕ → ℕ → LineRead
unfit number length place character = record { meaning = refused number; notes = record { length = length; place = place; character = character } }

-- The two lines of document 01's listing; an empty line; a lower-case digit; a space; an odd count; a wrong character with an odd count; 64 digits, and 66.
abbrev input : List ℕ
input =
    ascii "B5C074\nE0B080\n\n0a\n0 \nABC\nG\n" ++ replicate 64 (code "F") ++ ascii "\n" ++ replicate 66 (code "F") ++ ascii "\n"

abbrev answers : List LineRead
answers =
    fit (0xB5 ∷ 0xC0 ∷ 0x74 ∷ []) 6
    ∷ fit (0xE0 ∷ 0xB0 ∷ 0x80 ∷ []) 6
    ∷ fit [] 0
    ∷ unfit 7 2 2 (code "a")
    ∷ unfit 7 2 2 (code " ")
    ∷ unfit 8 3 0 0
    ∷ unfit 7 1 1 (code "G")
    ∷ fit (replicate 32 0xFF) 64
    ∷ unfit 8 66 0 0
    ∷ []

pub by_lines : lines_read (lines_of input) ≡ answers
unfolding lines_from lines_read line_meaning with_note with_notes
by_lines = refl

pub by_characters : read_from empty_line input ≡ answers
unfolding read_from with_character with_note meaning_so_far answer_of
by_characters = refl

-- "A line ends at a line feed or at the end of the input; nothing after the last line feed is no line."
pub ends : lines_of (ascii "AB\nCD") ≡ ascii "AB" ∷ ascii "CD" ∷ []
unfolding lines_from
ends = refl

pub none : lines_of [] ≡ []
unfolding lines_from
none = refl
