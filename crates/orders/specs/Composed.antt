-- What composing answers: a refusal's number, 0 for none; the number of the order that was refused, counted from 0; the count of bits.
-- Assumes nothing.
use Rattle.std.specs.Prelude.{ℕ}

pub record Composed : Type 0 where
  pub number : ℕ
  pub order : ℕ
  pub bits : ℕ
