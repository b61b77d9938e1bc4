-- The sentence that standard error gets for an order that is refused. All its numbers are decimal.
-- Assumes nothing.
use Rattle.std.specs.Prelude.{Bool, cond, List, [], ◌++◌, ℕ, eqb}
use Rattle.output.specs.Ascii.{ascii}
use Rattle.decimal_digits.specs.Decimal.{labelled}
use Rattle.order_messages.specs.declared.Reason.{Reason}
use Rattle.order_messages.specs.declared.Reason.TheVariants.{UnknownName, OtherCount, WrongField, OtherBits, LongLine, FewZeros}

-- An order that is refused (document 02, F-2), by a reason, and the two numbers that some have: the frame bits or zeros that are asked, and those that the
-- line gives. Reason 7 is the whole stream's, and has no line.
abbrev pub asked_and_given : List ℕ → ℕ → List ℕ → ℕ → List ℕ
asked_and_given label asked between given = labelled label asked between ++ labelled [] given (ascii "\n")

unfoldable pub order_numbers : Bool → ℕ → ℕ → List ℕ
order_numbers frame asked given =
    cond frame (asked_and_given (ascii "CNT asks for ") asked (ascii " frame bits, and the line gives ") given)
    (asked_and_given (ascii "the timing table asks for ") asked (ascii " zeros ahead of this command, and the line gives ") given)

unfoldable pub order_reason : ℕ → ℕ → ℕ → List ℕ
order_reason reason asked given =
    cond (eqb reason 1) (ascii "no command has this name\n")
    (cond (eqb reason 2) (ascii "the command has another count of fields\n")
    (cond (eqb reason 3) (ascii "a field is no number of its size\n")
    (cond (eqb reason 5) (ascii "the line is longer than 32768 characters\n") (order_numbers (eqb reason 4) asked given))))

unfoldable pub order_sentence : ℕ → ℕ → ℕ → ℕ → List ℕ
order_sentence reason line asked given =
    cond (eqb reason 7) (ascii "the stream is longer than 1048576 bytes\n") (labelled (ascii "line ") line (ascii ": ") ++ order_reason reason asked given)

-- A reason in numbers: its own, and the two that some have.
abbrev pub reason_number : Reason → ℕ
reason_number UnknownName = 1
reason_number OtherCount = 2
reason_number WrongField = 3
reason_number (OtherBits asked given) = 4
reason_number LongLine = 5
reason_number (FewZeros asked given) = 6

abbrev pub asked_of : Reason → ℕ
asked_of (OtherBits asked given) = asked
asked_of (FewZeros asked given) = asked
asked_of _ = 0

abbrev pub given_of : Reason → ℕ
given_of (OtherBits asked given) = given
given_of (FewZeros asked given) = given
given_of _ = 0

abbrev pub reason_text : Reason → List ℕ
reason_text reason = order_reason (reason_number reason) (asked_of reason) (given_of reason)

abbrev pub sentence_of : Reason → ℕ → List ℕ
sentence_of reason line = order_sentence (reason_number reason) line (asked_of reason) (given_of reason)
