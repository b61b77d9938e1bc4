-- What is said of a reply, or the refusal of a call (document 02, F-12).
-- Assumes nothing.
use Rattle.std.specs.Prelude.{ℕ}

pub data Reply : Type 0 where
  Whole : Reply
  NoHeader : Reply
  CutShort : ℕ → Reply
  WrongExpected : Reply
  WrongBuffer : Reply
  WrongRange : Reply
