-- How long a number between two texts can be.
-- Assumes nothing.
use mathlib.Core.List.{List}
use Prim.Native.Nat.{ℕ, ◌+◌, ◌≤◌}
use native.Mathlib.Omega.{arith}
use lib.ListN.{length, length-append}
use Rattle.decimal_digits.specs.Decimal.{labelled}
use Rattle.decimal_digits.proofs.Decimal.{decimal_short}

pub labelled_length : (label : List ℕ) (n : ℕ) (after : List ℕ) → length (labelled label n after) ≤ length label + 20 + length after
unfolding labelled
labelled_length label n after = rw (length-append, length-append) (omega (arith, decimal_short n))

-- A text of at most so many bytes.
abbrev pub Short : ℕ → List ℕ → Type 0
Short most text = length text ≤ most
