-- What is said of a stream (document 02, F-8); a place is that of the first bit of the pattern at fault, counted from 0 at the stream's first bit.
-- Assumes nothing.
use Rattle.std.specs.Prelude.{ℕ}

pub data Verdict : Type 0 where
  Accepted : Verdict
  WrongRange : Verdict
  Unknown : ℕ → Verdict
  Cut : ℕ → Verdict
  TooClose : ℕ → Verdict
