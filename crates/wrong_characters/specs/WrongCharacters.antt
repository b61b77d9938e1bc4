-- What standard error says of a line whose character is none of 0-9 and A-F (ours: document 01 has none). All its numbers are decimal.
-- Assumes nothing.
use Rattle.std.specs.Prelude.{cond, ◌&&◌, List, ◌++◌, ℕ, leb, eqb}
use Prim.Native.Char.{code}
use Rattle.output.specs.Ascii.{ascii}
use Rattle.line_meanings.specs.declared.LineNotes.{LineNotes}
use Rattle.decimal_digits.specs.Decimal.{labelled}

-- What a character is that is none of 0-9 and A-F.
unfoldable pub character_text : ℕ → List ℕ
character_text c =
    cond (eqb c (code "\r")) (ascii "a carriage return\n")
    (cond (eqb c (code " ")) (ascii "a space\n")
    (cond (eqb c (code "\t")) (ascii "a tab\n")
    (cond (leb (code "a") c && leb c (code "z")) (ascii "a lower-case letter\n")
    (labelled (ascii "byte ") c (ascii ", none of 0-9 and A-F\n")))))

-- Number 7, by the first such character of the line.
abbrev pub wrong_character : LineNotes → List ℕ
wrong_character notes = labelled (ascii "character ") notes.place (ascii " is ") ++ character_text notes.character
