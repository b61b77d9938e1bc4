-- The image in numbers and names, computed.
-- Assumes nothing.
use mathlib.Core.Path.{refl}
use Rattle.image_fields.specs.InNumbers.{LayoutInNumbers}

pub in_numbers : LayoutInNumbers
in_numbers = record { length_is = refl; layout_is = refl; names_are = refl; limits_are = refl }
