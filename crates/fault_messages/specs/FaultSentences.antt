-- The sentence that standard error gets for a pattern at fault. Its number is decimal.
-- Assumes nothing.
use Rattle.std.specs.Prelude.{cond, List, ◌++◌, ℕ, eqb}
use Rattle.output.specs.Ascii.{ascii}
use Rattle.decimal_digits.specs.Decimal.{labelled}

-- A pattern at fault (document 02, F-8): why, by the number, and the whole sentence, by the place of its first bit.
unfoldable pub fault_reason : ℕ → List ℕ
fault_reason number =
    cond (eqb number 13) (ascii "the bits from here on begin none of LV1, BCR, ECR, CAL and SYNC\n")
    (cond (eqb number 14) (ascii "the input ends inside the command that begins here\n") (ascii "too few zeros lie ahead of the command that begins here\n"))

abbrev pub fault_sentence : ℕ → ℕ → List ℕ
fault_sentence number place = labelled (ascii "bit ") place (ascii ": ") ++ fault_reason number
