-- How long a sentence can be.
-- Assumes nothing.
use Prim.Native.Nat.{ℕ, ◌≤◌}
use native.Mathlib.Omega.{arith}
use lib.Dec.{ltb, eqb}
use lib.ListN.{length, length-append}
use Rattle.bits.proofs.Truth.{choice}
use Rattle.output.specs.Ascii.{ascii}
use Rattle.line_meanings.specs.declared.LineNotes.{LineNotes}
use Rattle.line_meanings.specs.Line.{digit_limit}
use Rattle.decimal_digits.proofs.Lengths.{labelled_length, Short}
use Rattle.wrong_characters.proofs.Lengths.{character_length}
use Rattle.messages.specs.Sentences.{wrong_length, reason_of, sentence_of}

reason_length : (number : ℕ) (notes : LineNotes) → Short 90 (reason_of number notes)
unfolding reason_of wrong_length
reason_length number notes =
    choice (Short 90) (eqb number 7)
    (λ _. rw length-append
    (omega (arith, labelled_length (ascii "character ") notes.place (ascii " is "), character_length notes.character)))
    (λ _. choice (Short 90) (eqb number 8)
    (λ _. choice (Short 90) (ltb digit_limit notes.length)
    (λ _. omega (arith, labelled_length (ascii "the count of digits is ") notes.length (ascii ", above 64\n")))
    (λ _. omega (arith, labelled_length (ascii "the count of digits is ") notes.length (ascii ", which is odd\n"))))
    (λ _. omega arith))

pub sentence_short : (number line : ℕ) (notes : LineNotes) → length (sentence_of number line notes) ≤ 120
sentence_short number line notes =
    rw length-append (omega (arith, labelled_length (ascii "line ") line (ascii ": "), reason_length number notes))
