-- A block of bytes, into which texts are put one after another.
-- Assumes nothing.
use Rattle.std.specs.Prelude.{cond, List, ℕ, ◌+◌, leb, length}
use Rattle.std.proofs.lemmas.List.Edits.{sets}

-- How many bytes a program's block of input or of output has.
abbrev pub block_length : ℕ
block_length = 65536

-- The block's bytes, and its next free place.
pub record Block : Type 0 where
  pub bytes : List ℕ
  pub next : ℕ

abbrev pub block : List ℕ → ℕ → Block
block bytes next = record { bytes = bytes; next = next }

-- A text put into a block from a place on.
abbrev pub put_all : List ℕ → ℕ → List ℕ → Block
put_all out at text = block (sets out at text) (at + length text)

-- The same where all of the text fits; else the block and the place are as they were.
unfoldable pub put_if_fits : List ℕ → ℕ → List ℕ → Block
put_if_fits out at text = cond (leb (at + length text) (length out)) (put_all out at text) (block out at)
