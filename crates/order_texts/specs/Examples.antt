-- Texts of orders, character for character, with all that `compose` prints.
-- Assumes nothing.
use Rattle.std.specs.Prelude.{◌≡◌, List, [], ℕ}
use Rattle.output.specs.Ascii.{ascii}
use Rattle.order_texts.specs.Composed.{composed_of}
use Rattle.order_texts.specs.Printing.{text_of}

abbrev pub printed : List ℕ → List ℕ
printed characters = text_of (composed_of characters)

-- LV1, BCR, ECR at the timing table's distances; no orders; CNT written, and a frame of its nine bits behind it; two commands too close; a frame with another
-- count of bits; on line 2 an unknown name.
pub record ComposedExamples : Type 0 where
  pub fasts : printed (ascii "lv1\nbcr # reset\n\necr 2") ≡ ascii "ED84B100\n"
  pub nothing : printed (ascii "# none\n\n") ≡ []
  pub too_close : printed (ascii "bcr\nbcr 1\n") ≡ ascii "!0A 00000002\n"
  pub frame_bits : printed (ascii "wr-front-end 5C8:9\n") ≡ ascii "!09 00000001\n"
  pub unknown : printed (ascii "\nLV1\nlv1 x\n") ≡ ascii "!09 00000002\n"
