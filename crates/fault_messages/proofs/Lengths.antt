-- How long a sentence can be.
-- Assumes nothing.
use Prim.Native.Nat.{ℕ, ◌≤◌}
use native.Mathlib.Omega.{arith}
use lib.Dec.{eqb}
use lib.ListN.{length, length-append}
use Rattle.bits.proofs.Truth.{choice}
use Rattle.output.specs.Ascii.{ascii}
use Rattle.decimal_digits.proofs.Lengths.{labelled_length, Short}
use Rattle.fault_messages.specs.FaultSentences.{fault_reason, fault_sentence}

fault_reason_length : (number : ℕ) → Short 70 (fault_reason number)
unfolding fault_reason
fault_reason_length number =
    choice (Short 70) (eqb number 13) (λ _. omega arith) (λ _. choice (Short 70) (eqb number 14) (λ _. omega arith) (λ _. omega arith))

pub fault_short : (number place : ℕ) → length (fault_sentence number place) ≤ 120
fault_short number place = rw length-append (omega (arith, labelled_length (ascii "bit ") place (ascii ": "), fault_reason_length number))
