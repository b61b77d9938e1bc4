-- Opening by numbers, with the start state as an image.
-- Assumes nothing.
use Rattle.std.specs.Prelude.{cond, List, ℕ, eqb, length}
use Rattle.decoder.specs.declared.Opened.{Opened}
use Rattle.decoder.specs.Opening.{open_of, opening_number}
use Rattle.host_plans.specs.Plans.{plan_of}
use Rattle.image_fields.specs.Image.{image_length, image_of}

-- A refusal number, 0 for none, and the image's later contents.
pub record OpenResult : Type 0 where
  pub number : ℕ
  pub image : List ℕ

-- The opening's own number, or else 3 for an image of another length.
abbrev pub number_or3 : ℕ → ℕ
number_or3 number = cond (eqb number 0) 3 number

abbrev pub open_result : ℕ → List ℕ → OpenResult
open_result number image = record { number = number; image = image }

abbrev pub opened_into : Opened → List ℕ → OpenResult
opened_into o image =
    cond (eqb (length image) image_length)
    (open_result (opening_number o.opening) (image_of o.decoder))
    (open_result (number_or3 (opening_number o.opening)) image)

-- "A refused opening gives the default start state at cycle 0", here too. An image of another length stays as it is.
unfoldable pub open_result_of : ℕ → ℕ → ℕ → ℕ → ℕ → List ℕ → OpenResult
open_result_of mask csr feen cnt cycle image = opened_into (open_of (plan_of mask csr feen cnt) cycle) image
