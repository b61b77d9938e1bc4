-- The length of Field 5 past the rows for front ends, and the longest one.
-- Assumes nothing.
use mathlib.Core.Path.{◌≡◌}
use mathlib.Core.Bool.{cond}
use Prim.Native.Nat.{ℕ, ◌^◌, ◌≤◌, ◌<◌}
use native.Mathlib.Omega.{arith}
use borrow.Author.Tests.{lt-leb}
use lib.Dec.{leb, eqb}
use Rattle.bits.proofs.Truth.{cond_most}
use Rattle.slow_fields.specs.Slow.{receiver_bits, length_of}

-- Past RdFrontEnd a WrReceiver and a GlobalResetFE have a Field 5.
pub length_beyond : (command cnt : ℕ) → 5 < command → length_of command cnt ≡ cond (eqb command 6) (receiver_bits cnt) (cond (eqb command 10) 4 0)
length_beyond command cnt h = simp (lt-leb command 1 (omega arith), lt-leb command 3 (omega arith), lt-leb command 5 h)

-- "The largest is 65,976 cycles."
pub length_most : (command cnt : ℕ) → cnt < 2 ^ 16 → length_of command cnt ≤ 65976
length_most command cnt h =
    cond_most (leb command 1) (omega arith)
    (cond_most (leb command 3) (omega arith)
    (cond_most (leb command 5) (omega arith)
    (cond_most (eqb command 6) (omega arith)
    (cond_most (eqb command 10) (omega arith) (omega arith)))))
