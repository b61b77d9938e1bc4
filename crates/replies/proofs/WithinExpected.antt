-- The complete bits are at most those that are expected.
-- Assumes nothing.
use mathlib.Core.List.{List}
use Prim.Native.Nat.{ℕ, ◌*◌, ◌/◌, ◌≤◌}
use native.Mathlib.Omega.{arith}
use lib.Dec.{leb, eqb}
use lib.ListN.{length}
use borrow.Author.Tests.{leb-true, leb-false}
use Rattle.bits.specs.Bits.{bits_of}
use Rattle.bits.specs.Range.{range_fits}
use Rattle.bits.proofs.Truth.{both, choice}
use Rattle.replies.specs.Said.{Reply}
use Rattle.replies.specs.Replies.{Behind, nowhere, behind, behind_header, complete_of, ReplyResult, result_by, most_bits, expected_fits, reply_of, reply_bits}

complete_most : (expected : ℕ) (cycles : List ℕ) → complete_of expected cycles ≤ expected
complete_most expected cycles =
    choice (λ (n : ℕ). n ≤ expected) (leb expected (length cycles / 8)) (λ _. omega arith)
    (λ e. let l = leb-false expected (length cycles / 8) e in omega arith)

said_most : (expected : ℕ) (buffer : List ℕ) (b : Behind) → reply_bits expected (result_by expected buffer b).reply ≤ expected
said_most expected buffer nowhere = omega arith
said_most expected buffer (behind cycles) =
    choice (λ (said : Reply). reply_bits expected said ≤ expected) (eqb (complete_of expected cycles) expected) (λ _. omega arith)
    (λ _. complete_most expected cycles)

-- And so at most those that may be.
pub bits_most : (input : List ℕ) (first count expected : ℕ) (buffer : List ℕ) → reply_bits expected (reply_of input first count expected buffer).reply ≤ most_bits
unfolding reply_of
bits_most input first count expected buffer =
    choice (λ (r : ReplyResult). reply_bits expected r.reply ≤ most_bits) (expected_fits expected)
    (λ e.
    let most = leb-true expected most_bits (both (leb 1 expected) (leb expected most_bits) e).1 in
    choice (λ (r : ReplyResult). reply_bits expected r.reply ≤ most_bits) (leb expected (8 * length buffer))
    (λ _.
    choice (λ (r : ReplyResult). reply_bits expected r.reply ≤ most_bits) (range_fits (length input) first count)
    (λ _. let said = said_most expected buffer (behind_header (bits_of input first count)) in omega arith) (λ _. omega arith))
    (λ _. omega arith))
    (λ _. omega arith)
