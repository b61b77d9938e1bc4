-- The lines by which a program shows the model's state (ours: document 01 has none): a word, and numbers as in the listing.
-- Assumes nothing.
use Rattle.std.specs.Prelude.{Bool, cond, List, [], ◌∷◌, ℕ}
use Rattle.output.specs.Ascii.{ascii}
use Rattle.number_lines.specs.NumberLines.{line_of}

-- A register: its address and what it holds.
abbrev pub register_line : ℕ → ℕ → List ℕ
register_line address value =
    line_of (ascii "register ") (address ∷ value ∷ []) (1 ∷ 4 ∷ [])

-- The trigger number.
abbrev pub l1id_line : ℕ → List ℕ
l1id_line l1id = line_of (ascii "l1id ") (l1id ∷ []) (2 ∷ [])

-- The cycle from which the bunch number counts.
abbrev pub base_line : ℕ → List ℕ
base_line base = line_of (ascii "base ") (base ∷ []) (12 ∷ [])

-- RunMode, 1 for on.
abbrev pub runmode_line : Bool → List ℕ
runmode_line on = line_of (ascii "runmode ") (cond on 1 0 ∷ []) (1 ∷ [])

-- A FIFO's number, and its write and read pointers.
abbrev pub pointers_line : ℕ → ℕ → ℕ → List ℕ
pointers_line fifo write read =
    line_of (ascii "pointers ") (fifo ∷ write ∷ read ∷ []) (1 ∷ 2 ∷ 2 ∷ [])

-- A word of a FIFO: the FIFO's number, the place in it, and the word.
abbrev pub word_line : ℕ → ℕ → ℕ → List ℕ
word_line fifo place word =
    line_of (ascii "word ") (fifo ∷ place ∷ word ∷ []) (1 ∷ 2 ∷ 8 ∷ [])
