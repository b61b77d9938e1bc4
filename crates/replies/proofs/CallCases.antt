-- What each way through `read_reply` leaves, against its definition.
-- Assumes nothing.
use mathlib.Core.Bool.{true, false}
use mathlib.Core.List.{List}
use mathlib.Core.Path.{◌≡◌}
use Prim.Native.Nat.{ℕ, ◌+◌, ◌*◌, ◌/◌, ◌<◌, ◌≤◌}
use native.Mathlib.Omega.{arith}
use lib.Dec.{leb}
use lib.ListN.{length}
use borrow.Author.Tests.{le-leb, lt-leb, leb-true}
use Rattle.bits.specs.Bits.{bits_of}
use Rattle.bits.specs.Range.{range_fits}
use Rattle.bits.proofs.Truth.{both}
use Rattle.replies.specs.Said.{WrongExpected, WrongBuffer, WrongRange}
use Rattle.replies.specs.Replies.{most_bits, expected_fits, reply_result, read_of, reply_of}

-- The test of the count.
pub expected_within : (expected : ℕ) → expected_fits expected ≡ true → (1 ≤ expected) × (expected ≤ most_bits)
expected_within expected e =
    let s = both (leb 1 expected) (leb expected most_bits) e in
    (leb-true 1 expected s.0, leb-true expected most_bits s.1)

module _ (input : List ℕ) (first count expected : ℕ) (buffer : List ℕ) where
  pub wrong_expected : expected_fits expected ≡ false → reply_result WrongExpected buffer ≡ reply_of input first count expected buffer
  unfolding reply_of
  wrong_expected e = rw e

  module _ (some : 1 ≤ expected) (most : expected ≤ most_bits) where
    pub wrong_buffer : length buffer < (expected + 7) / 8 → reply_result WrongBuffer buffer ≡ reply_of input first count expected buffer
    unfolding reply_of
    wrong_buffer h = rw (le-leb 1 expected some, le-leb expected most_bits most, lt-leb expected (8 * length buffer) (omega arith))

    module _ (room : (expected + 7) / 8 ≤ length buffer) where
      pub wrong_range : range_fits (length input) first count ≡ false → reply_result WrongRange buffer ≡ reply_of input first count expected buffer
      unfolding reply_of
      wrong_range e = rw (le-leb 1 expected some, le-leb expected most_bits most, le-leb expected (8 * length buffer) (omega arith), e)

      pub read : range_fits (length input) first count ≡ true
          → read_of expected buffer (bits_of input first count) ≡ reply_of input first count expected buffer
      unfolding reply_of
      read e = rw (le-leb 1 expected some, le-leb expected most_bits most, le-leb expected (8 * length buffer) (omega arith), e)
