-- What a judgement prints and says, by its number; each fits a block.
-- Assumes nothing.
use mathlib.Core.Path.{◌≡◌, ◌∙◌, refl, sym, ap}
use mathlib.Core.List.{List, [], ◌∷◌}
use Prim.Native.Nat.{ℕ, ◌+◌, ◌<◌, ◌≤◌}
use native.Mathlib.Omega.{arith}
use lib.Dec.{leb}
use lib.ListN.{length}
use borrow.Author.Tests.{le-leb, lt-leb}
use Rattle.bits.proofs.Truth.{choice}
use Rattle.output.specs.Ascii.{ascii}
use Rattle.output.specs.Block.{block_length, Block, put_all, put_if_fits}
use Rattle.output.proofs.Pieces.{put_when_fits}
use Rattle.layout.specs.ListingLines.{refused_line, fault_line}
use Rattle.number_lines.proofs.LineLengths.{line_length}
use Rattle.fault_messages.specs.FaultSentences.{fault_sentence}
use Rattle.messages.specs.Sentences.{sentence_of}
use Rattle.messages.proofs.Lengths.{sentence_short}
use Rattle.fault_messages.proofs.Lengths.{fault_short}
use Rattle.judgements.specs.declared.Judgement.{Judgement}
use Rattle.judgements.specs.Judgement.{text_of, message_of}

module _ (j : Judgement) where
  fault_text : 13 ≤ j.number → text_of j ≡ fault_line j.number j.place
  unfolding text_of
  fault_text h = simp (le-leb 13 j.number h)

  line_text : j.number < 13 → 7 ≤ j.number → text_of j ≡ refused_line j.number j.line
  unfolding text_of
  line_text h g = simp (lt-leb 13 j.number h, le-leb 7 j.number g)

  pub no_text : j.number < 13 → j.number < 7 → text_of j ≡ []
  unfolding text_of
  no_text h g = simp (lt-leb 13 j.number h, lt-leb 7 j.number g)

  pub fault_message : 13 ≤ j.number → message_of j ≡ fault_sentence j.number j.place
  unfolding message_of
  fault_message h = simp (le-leb 13 j.number h)

  pub line_message : j.number < 13 → message_of j ≡ sentence_of j.number j.line j.notes
  unfolding message_of
  line_message h = simp (lt-leb 13 j.number h)

  module _ (out : List ℕ) (long : length out ≡ block_length) {after : Block} where
    pub fault_put : 13 ≤ j.number → after ≡ put_if_fits out 0 (fault_line j.number j.place) → after ≡ put_all out 0 (text_of j)
    fault_put h e =
        let few = line_length (ascii "!") (j.number ∷ j.place ∷ []) (2 ∷ 12 ∷ []) refl in
        e ∙ put_when_fits out 0 (fault_line j.number j.place) (omega (arith, few, long)) ∙ ap (put_all out 0) (sym (fault_text h))

    pub line_put : j.number < 13 → 7 ≤ j.number → after ≡ put_if_fits out 0 (refused_line j.number j.line) → after ≡ put_all out 0 (text_of j)
    line_put h g e =
        let few = line_length (ascii "!") (j.number ∷ j.line ∷ []) (2 ∷ 8 ∷ []) refl in
        e ∙ put_when_fits out 0 (refused_line j.number j.line) (omega (arith, few, long)) ∙ ap (put_all out 0) (sym (line_text h g))

-- Both are short.
pub text_short : (j : Judgement) → length (text_of j) ≤ 17
unfolding text_of
text_short j =
    choice (λ (text : List ℕ). length text ≤ 17) (leb 13 j.number) (λ _. omega (arith, line_length (ascii "!") (j.number ∷ j.place ∷ []) (2 ∷ 12 ∷ []) refl))
    (λ _. choice (λ (text : List ℕ). length text ≤ 17) (leb 7 j.number) (λ _. omega (arith, line_length (ascii "!") (j.number ∷ j.line ∷ []) (2 ∷ 8 ∷ []) refl)) (λ _. omega arith))

pub message_short : (j : Judgement) → length (message_of j) ≤ 120
unfolding message_of
message_short j =
    choice (λ (text : List ℕ). length text ≤ 120) (leb 13 j.number) (λ _. fault_short j.number j.place)
    (λ _. sentence_short j.number j.line j.notes)
