-- Why an order is refused, by the tests of its reason.
-- Assumes nothing.
use mathlib.Core.Bool.{Bool, true, false}
use mathlib.Core.List.{◌++◌}
use mathlib.Core.Path.{◌≡◌}
use Prim.Native.Nat.{ℕ}
use lib.Dec.{eqb}
use borrow.Author.Tests.{eq-eqb, ne_eqb}
use Rattle.output.specs.Ascii.{ascii}
use Rattle.decimal_digits.specs.Decimal.{labelled}
use Rattle.order_messages.specs.OrderSentences.{asked_and_given, order_numbers, order_reason, order_sentence}

module _ (reason asked given : ℕ) where
  pub unknown_name : reason ≡ 1 → order_reason reason asked given ≡ ascii "no command has this name\n"
  unfolding order_reason
  unknown_name e = simp (eq-eqb reason 1 e)

  module _ (n1 : reason ≡ 1 → ⊥) where
    pub other_count_lem : reason ≡ 2 → order_reason reason asked given ≡ ascii "the command has another count of fields\n"
    unfolding order_reason
    other_count_lem e = simp (ne_eqb reason 1 n1, eq-eqb reason 2 e)

    module _ (n2 : reason ≡ 2 → ⊥) where
      pub wrong_field : reason ≡ 3 → order_reason reason asked given ≡ ascii "a field is no number of its size\n"
      unfolding order_reason
      wrong_field e = simp (ne_eqb reason 1 n1, ne_eqb reason 2 n2, eq-eqb reason 3 e)

      module _ (n3 : reason ≡ 3 → ⊥) where
        pub long_line : reason ≡ 5 → order_reason reason asked given ≡ ascii "the line is longer than 32768 characters\n"
        unfolding order_reason
        long_line e = simp (ne_eqb reason 1 n1, ne_eqb reason 2 n2, ne_eqb reason 3 n3, eq-eqb reason 5 e)

        pub by_numbers : (reason ≡ 5 → ⊥) → order_reason reason asked given ≡ order_numbers (eqb reason 4) asked given
        unfolding order_reason
        by_numbers n5 = simp (ne_eqb reason 1 n1, ne_eqb reason 2 n2, ne_eqb reason 3 n3, ne_eqb reason 5 n5)

  module _ (line : ℕ) where
    pub long_stream : reason ≡ 7 → order_sentence reason line asked given ≡ ascii "the stream is longer than 1048576 bytes\n"
    unfolding order_sentence
    long_stream e = simp (eq-eqb reason 7 e)

    pub refused_line_lem : (reason ≡ 7 → ⊥) → order_sentence reason line asked given ≡ labelled (ascii "line ") line (ascii ": ") ++ order_reason reason asked given
    unfolding order_sentence
    refused_line_lem n = simp (ne_eqb reason 7 n)

-- Where two numbers tell it.
module _ (frame : Bool) (asked given : ℕ) where
  pub frame_numbers : frame ≡ true
      → order_numbers frame asked given ≡ asked_and_given (ascii "CNT asks for ") asked (ascii " frame bits, and the line gives ") given
  unfolding order_numbers
  frame_numbers e = rw e

  pub zeros_numbers : frame ≡ false
      → order_numbers frame asked given
      ≡ asked_and_given (ascii "the timing table asks for ") asked (ascii " zeros ahead of this command, and the line gives ") given
  unfolding order_numbers
  zeros_numbers e = rw e
