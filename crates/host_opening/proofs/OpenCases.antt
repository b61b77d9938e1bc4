-- What each way through an opening leaves, against its definition.
-- Assumes nothing.
use mathlib.Core.List.{List}
use mathlib.Core.Path.{◌≡◌, sym, ◌∙◌}
use Prim.Native.Nat.{ℕ}
use lib.ListN.{length}
use borrow.Author.Tests.{eq-eqb, ne_eqb}
use Rattle.decoder.specs.declared.Opened.{Opened}
use Rattle.decoder.specs.Opening.{opening_number}
use Rattle.image_fields.specs.Image.{image_length, image_of}
use Rattle.host_opening.specs.Open.{open_result, opened_into}

module _ (o : Opened) (image : List ℕ) (number : ℕ) (e : number ≡ opening_number o.opening) where
  pub filled : length image ≡ image_length → (after : List ℕ) → after ≡ image_of o.decoder → open_result number after ≡ opened_into o image
  filled long after w = simp (eq-eqb (length image) image_length long) (rw (e, w))

  module _ (short : length image ≡ image_length → ⊥) where
    pub no_room : number ≡ 0 → open_result 3 image ≡ opened_into o image
    no_room none = simp (ne_eqb (length image) image_length short, eq-eqb (opening_number o.opening) 0 (sym e ∙ none))

    pub no_room_refused : (number ≡ 0 → ⊥) → open_result number image ≡ opened_into o image
    no_room_refused some =
        simp (ne_eqb (length image) image_length short, ne_eqb (opening_number o.opening) 0 (λ z. some (e ∙ z)), e)
