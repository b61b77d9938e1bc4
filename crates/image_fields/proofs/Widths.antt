-- What the widths of a state's fields say of each field, and of the length of the image.
-- Assumes nothing.
use mathlib.Core.Bool.{Bool, true, false}
use mathlib.Core.List.{List, [], ◌∷◌}
use mathlib.Core.Path.{◌≡◌, refl, ap}
use Prim.Native.Nat.{ℕ, zero, suc, ◌≤◌, ◌<◌}
use native.Mathlib.Nat.{not-suc-le-zero, le_of_suc-le-suc}
use native.Mathlib.Omega.{arith}
use lib.ListN.{length, get_or, replicate, length-append, length-replicate}
use mir.Syntax.{Width}
use mir.Val.{Fits, bool_byte}
use mir.Val as val
use mir.Facts.{Fits-lt-pow}
use Rattle.recogniser.specs.declared.Phase.{Phase}
use Rattle.recogniser.specs.declared.Phase.TheVariants.{Hunt, Body, Field3, Field4, Field5}
use Rattle.decoder.specs.declared.Decoder.{Decoder}
use Rattle.image_fields.specs.Fields.{Limit, bits, up_to, Field, number, flag, phase, array, arrays, fields, phase_number, size, limit_of, numbers_in}
use Rattle.image_fields.specs.Image.{image_length, field_words, word_limits_of, image_of, Keeps, NumbersKeep, ArrayKeeps, ArraysKeep, Widths}

-- A field of a state has its size and is within its limit.
pub record Within (d : Decoder) (f : Field) : Type 0 where
  pub long : length (numbers_in f d) ≡ size f
  pub keeps : (n : ℕ) → n < size f → Keeps (limit_of f) (get_or (numbers_in f d) n 0)

abbrev pub WithinAll : Decoder → List Field → Type 0
WithinAll d [] = Unit {0}
WithinAll d (f ∷ fs) = Within d f × WithinAll d fs

one_keeps : (limit : Limit) (w : ℕ) → Keeps limit w → (n : ℕ) → n < 1 → Keeps limit (get_or (w ∷ []) n 0)
one_keeps limit w k zero h = k
one_keeps limit w k (suc n) h = absurd (not-suc-le-zero (le_of_suc-le-suc h))

flag_keeps : (b : Bool) → bool_byte b ≤ 1
flag_keeps true = omega arith
flag_keeps false = omega arith

phase_keeps : (p : Phase) → phase_number p ≤ 4
phase_keeps Hunt = omega arith
phase_keeps Body = omega arith
phase_keeps Field3 = omega arith
phase_keeps Field4 = omega arith
phase_keeps Field5 = omega arith

all_within : (d : Decoder) (fs : List Field) → NumbersKeep fs d → ArraysKeep fs d → WithinAll d fs
all_within d [] n a = tt
all_within d (number name limit get ∷ fs) n a =
    (record { long = refl; keeps = one_keeps limit (get d) n.0 }, all_within d fs n.1 a)
all_within d (flag name get ∷ fs) n a =
    (record { long = refl; keeps = one_keeps (up_to 1) (bool_byte (get d)) (flag_keeps (get d)) }, all_within d fs n a)
all_within d (phase name get ∷ fs) n a =
    (record { long = refl; keeps = one_keeps (up_to 4) (phase_number (get d)) (phase_keeps (get d)) }, all_within d fs n a)
all_within d (array name limit get ∷ fs) n a = (record { long = a.0.long; keeps = a.0.keeps }, all_within d fs n a.1)

pub within : (d : Decoder) → Widths d → WithinAll d fields
within d w = all_within d fields w.numbers w.arrays

pub arrays_within : (d : Decoder) → Widths d → WithinAll d arrays
arrays_within d w = all_within d arrays tt w.arrays

-- An array whose numbers fit an integer's width.
pub array_keeps : (w : Width) (numbers : List ℕ) → length numbers ≡ 16 → ((n : ℕ) → Fits w (get_or numbers n 0)) → ArrayKeeps (bits (val.bits w)) numbers
array_keeps w numbers long fit = record { long = long; keeps = λ (n : ℕ) h. Fits-lt-pow (fit n) }

-- A state has as many words as there are limits.
length_words : (d : Decoder) (fs : List Field) → WithinAll d fs → length (field_words fs d) ≡ length (word_limits_of fs)
length_words d [] w = refl
length_words d (f ∷ fs) w =
    let rest = length_words d fs w.1 in
    omega (
      arith,
      rest,
      w.0.long,
      length-append (numbers_in f d) (field_words fs d),
      length-append (replicate (size f) (limit_of f)) (word_limits_of fs),
      length-replicate (size f) (limit_of f),
    )

pub image_length_lem : (d : Decoder) → Widths d → length (image_of d) ≡ image_length
unfolding image_of
image_length_lem d w = ap suc (length_words d fields (within d w))
