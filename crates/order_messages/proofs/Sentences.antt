-- The sentence for a reason: its line's number, and why.
-- Assumes nothing.
use mathlib.Core.List.{List, ◌++◌}
use mathlib.Core.Path.{◌≡◌, ◌∙◌, refl, sym, ap}
use Prim.Native.Nat.{ℕ}
use Rattle.output.specs.Ascii.{ascii}
use Rattle.decimal_digits.specs.Decimal.{labelled}
use Rattle.order_messages.specs.declared.Reason.{Reason}
use Rattle.order_messages.specs.declared.Reason.TheVariants.{UnknownName, OtherCount, WrongField, OtherBits, LongLine, FewZeros}
use Rattle.order_messages.specs.OrderSentences.{reason_text, sentence_of, order_reason, order_sentence}
use Rattle.order_messages.proofs.OrderReasons.{refused_line_lem}

abbrev pub ahead : ℕ → List ℕ
ahead line = labelled (ascii "line ") line (ascii ": ")

pub whole : (reason : Reason) (line : ℕ) → sentence_of reason line ≡ ahead line ++ reason_text reason
unfolding order_sentence
whole UnknownName line = refl
whole OtherCount line = refl
whole WrongField line = refl
whole (OtherBits asked given) line = refl
whole LongLine line = refl
whole (FewZeros asked given) line = refl

-- By the reason's number, of any but the whole stream's.
pub by_number : (r : Reason) (reason asked given line : ℕ) → reason_text r ≡ order_reason reason asked given → (reason ≡ 7 → ⊥)
    → sentence_of r line ≡ order_sentence reason line asked given
by_number r reason asked given line e n =
    whole r line ∙ ap (λ (text : List ℕ). ahead line ++ text) e ∙ sym (refused_line_lem reason asked given line n)
