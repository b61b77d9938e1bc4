-- How long a sentence can be.
-- Assumes nothing.
use mathlib.Core.List.{List, []}
use Prim.Native.Nat.{ℕ, ◌+◌, ◌≤◌}
use native.Mathlib.Omega.{arith}
use lib.Dec.{eqb}
use lib.ListN.{length, length-append}
use Rattle.bits.proofs.Truth.{choice}
use Rattle.output.specs.Ascii.{ascii}
use Rattle.decimal_digits.proofs.Lengths.{labelled_length, Short}
use Rattle.order_messages.specs.OrderSentences.{asked_and_given, order_numbers, order_reason, order_sentence}

-- Two numbers between two texts.
numbers_length : (label : List ℕ) (asked : ℕ) (between : List ℕ) (given : ℕ)
    → length (asked_and_given label asked between given) ≤ length label + length between + 41
numbers_length label asked between given =
    rw length-append (omega (arith, labelled_length label asked between, labelled_length [] given (ascii "\n")))

order_reason_length : (reason asked given : ℕ) → Short 120 (order_reason reason asked given)
unfolding order_reason order_numbers
order_reason_length reason asked given =
    choice (Short 120) (eqb reason 1) (λ _. omega arith)
    (λ _. choice (Short 120) (eqb reason 2) (λ _. omega arith)
    (λ _. choice (Short 120) (eqb reason 3) (λ _. omega arith)
    (λ _. choice (Short 120) (eqb reason 5) (λ _. omega arith)
    (λ _. choice (Short 120) (eqb reason 4)
    (λ _. omega (arith, numbers_length (ascii "CNT asks for ") asked (ascii " frame bits, and the line gives ") given))
    (λ _. omega (arith, numbers_length (ascii "the timing table asks for ") asked (ascii " zeros ahead of this command, and the line gives ") given))))))

pub order_short : (reason line asked given : ℕ) → length (order_sentence reason line asked given) ≤ 150
unfolding order_sentence
order_short reason line asked given =
    choice (Short 150) (eqb reason 7) (λ _. omega arith)
    (λ _. rw length-append (omega (arith, labelled_length (ascii "line ") line (ascii ": "), order_reason_length reason asked given)))
