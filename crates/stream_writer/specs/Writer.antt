-- Bits written into bytes, one after another (document 02, F-2).
-- Assumes nothing.
use Rattle.std.specs.Prelude.{◌≡◌, List, [], ◌++◌, ℕ, ◌+◌, ◌*◌, ◌^◌, ◌<◌, length}
use Rattle.std.proofs.lemmas.List.Edits.{sets}
use Rattle.orders.specs.Streams.{packed_from}
use Rattle.stream_writer.specs.declared.Writer.{Writer}

abbrev pub writer : ℕ → ℕ → ℕ → Writer
writer at held filled = record { at = at; held = held; filled = filled }

-- Ahead of the first bit.
abbrev pub start : Writer
start = writer 0 0 0

-- How many bits stand before it.
abbrev pub place_of : Writer → ℕ
place_of w = 8 * w.at + w.filled

-- What is held of a byte is part of one.
pub record Fits (w : Writer) : Type 0 where
  pub part : w.filled < 8
  pub held : w.held < 2 ^ w.filled

-- Some bits of those to be written are written, and the rest is not: whatever more bits come, the same bytes stand in the end.
pub record Written (w : Writer) (out bits : List ℕ) (v : Writer) (now rest : List ℕ) : Type 0 where
  pub fits : Fits v
  pub long : length now ≡ length out
  pub place : place_of v + length rest ≡ place_of w + length bits
  pub same : (more : List ℕ) → sets now v.at (packed_from v.held v.filled (rest ++ more))
      ≡ sets out w.at (packed_from w.held w.filled (bits ++ more))

-- All of them.
abbrev pub Wrote : Writer → List ℕ → List ℕ → Writer → List ℕ → Type 0
Wrote w out bits v now = Written w out bits v now []
