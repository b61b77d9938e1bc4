-- What the message of a refusal tells of a line (ours: document 01 has no message).
-- Assumes nothing.
use Rattle.std.specs.Prelude.{cond, not, ◌||◌, List, [], ◌∷◌, ℕ, ◌+◌, ◌%◌, ◌^◌, eqb}
use Rattle.line_meanings.specs.declared.LineNotes.{LineNotes}
use Rattle.line_meanings.specs.Digits.{is_digit}

-- No characters yet.
abbrev pub no_notes : LineNotes
no_notes = record { length = 0; place = 0; character = 0 }

-- A character more, counted in 64 bits.
abbrev pub one_longer : LineNotes → ℕ
one_longer n = (n.length + 1) % 2 ^ 64

-- One more character: the first that is no digit is kept with its place, from 1.
unfoldable pub with_note : LineNotes → ℕ → LineNotes
with_note n c =
    cond (is_digit c || not (eqb n.place 0))
    (record { length = one_longer n; place = n.place; character = n.character })
    (record { length = one_longer n; place = one_longer n; character = c })

-- More characters, one after the other.
unfoldable pub with_notes : LineNotes → List ℕ → LineNotes
with_notes n [] = n
with_notes n (c ∷ cs) = with_notes (with_note n c) cs

-- The notes of a line.
abbrev pub notes_of : List ℕ → LineNotes
notes_of line = with_notes no_notes line
