-- The image in numbers and names, as the header has it.
-- Assumes nothing.
use Rattle.std.specs.Prelude.{◌≡◌, [], ◌∷◌, ◌++◌, map, replicate}
use Rattle.image_fields.specs.Fields.{whole, bits, up_to, fields, name_of}
use Rattle.image_fields.specs.Image.{layout, word_limits, image_length}

-- 70 words, layout 3; behind the layout's number the fields in this order, and what each word may be.
pub record LayoutInNumbers : Type 0 where
  pub length_is : image_length ≡ 70
  pub layout_is : layout ≡ 3
  pub names_are : map name_of fields
      ≡ "mask" ∷ "csr" ∷ "feen" ∷ "cnt" ∷ "next" ∷ "phase" ∷ "shift" ∷ "command" ∷ "address" ∷ "count" ∷ "held" ∷ "group" ∷ "unsteady"
      ∷ "running" ∷ "l1id" ∷ "base" ∷ "wlv1" ∷ "wfst" ∷ "wslw" ∷ "earlier_time" ∷ "earlier_kind"
      ∷ "registers" ∷ "writes" ∷ "reads" ∷ []
  pub limits_are : word_limits
      ≡ bits 16 ∷ bits 8 ∷ bits 8 ∷ bits 8 ∷ whole ∷ up_to 4 ∷ bits 8 ∷ bits 8 ∷ bits 8 ∷ bits 32 ∷ bits 32 ∷ bits 8 ∷ up_to 1
      ∷ up_to 1 ∷ bits 8 ∷ whole ∷ up_to 1 ∷ up_to 1 ∷ up_to 1 ∷ whole ∷ bits 8
      ∷ (replicate 16 (bits 16) ++ (replicate 16 (bits 8) ++ replicate 16 (bits 8)))
