-- The sentence that standard error gets for a refused line (ours: document 01 has none). All its numbers are decimal.
-- Assumes nothing.
use Rattle.std.specs.Prelude.{cond, List, ◌++◌, ℕ, ltb, eqb}
use Rattle.output.specs.Ascii.{ascii}
use Rattle.line_meanings.specs.declared.LineNotes.{LineNotes}
use Rattle.line_meanings.specs.Line.{digit_limit}
use Rattle.decimal_digits.specs.Decimal.{labelled}
use Rattle.wrong_characters.specs.WrongCharacters.{wrong_character}

-- Number 8, by the count of digits.
unfoldable pub wrong_length : LineNotes → List ℕ
wrong_length notes =
    cond (ltb digit_limit notes.length)
    (labelled (ascii "the count of digits is ") notes.length (ascii ", above 64\n"))
    (labelled (ascii "the count of digits is ") notes.length (ascii ", which is odd\n"))

-- Why a line is refused, by the number and the line's notes. Of the taking call's numbers a program meets 6 alone.
unfoldable pub reason_of : ℕ → LineNotes → List ℕ
reason_of number notes =
    cond (eqb number 7) (wrong_character notes) (cond (eqb number 8) (wrong_length notes) (ascii "its bits pass the last clock cycle\n"))

-- The whole sentence, by the number, the line's number and its notes.
abbrev pub sentence_of : ℕ → ℕ → LineNotes → List ℕ
sentence_of number line notes = labelled (ascii "line ") line (ascii ": ") ++ reason_of number notes
