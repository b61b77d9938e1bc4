-- The state as plain words: what a state is written as, what words are read as, and which words are an image. All of it follows from the table of
-- fields.
-- Assumes nothing.
use Rattle.std.specs.Prelude.{Bool, true, false, ◌&&◌, List, [], ◌∷◌, ◌++◌, ◌≡◌, ℕ, suc, ◌+◌, ◌%◌, ◌^◌, ◌≤◌, ◌<◌, eqb, length, get_or, replicate}
use Prim.Native.String.{String}
use lib.Text.{eqt}
use Rattle.decoder.specs.declared.Decoder.{Decoder}
use Rattle.image_fields.specs.Fields.{Limit, whole, bits, up_to, Field, number, flag, phase, array, scalars, fields}
use Rattle.image_fields.specs.Fields.{name_of, size, limit_of, numbers_in, Numbers, state_from}

-- The layout's number stands first, so that an image of another layout is not misread.
abbrev pub layout : ℕ
layout = 3

-- The words of a state, field after field, and what each may be.
abbrev pub field_words : List Field → Decoder → List ℕ
field_words [] d = []
field_words (f ∷ fs) d = numbers_in f d ++ field_words fs d

abbrev pub word_limits_of : List Field → List Limit
word_limits_of [] = []
word_limits_of (f ∷ fs) = replicate (size f) (limit_of f) ++ word_limits_of fs

abbrev pub word_limits : List Limit
word_limits = word_limits_of fields

abbrev pub image_length : ℕ
image_length = suc (length word_limits)

unfoldable pub image_of : Decoder → List ℕ
image_of d = layout ∷ field_words fields d

-- Where the field of a name begins.
abbrev pub word_place_from : List Field → ℕ → String → ℕ
word_place_from [] at name = at
word_place_from (f ∷ fs) at name = elim (eqt (name_of f) name) [ true ↦ at | false ↦ word_place_from fs (at + size f) name ]

abbrev pub word_place : String → ℕ
word_place = word_place_from fields 1

-- The image up to its arrays.
abbrev pub scalars_of : Decoder → List ℕ
scalars_of d = layout ∷ field_words scalars d

-- A number brought within the limit; one that is within it stays.
abbrev pub low : Limit → ℕ → ℕ
low whole w = w
low (bits n) w = w % 2 ^ n
low (up_to m) w = w % suc m

-- As many words as there are limits, from a place on, each brought within its own.
abbrev pub low_words : List Limit → ℕ → List ℕ → List ℕ
low_words [] at image = []
low_words (l ∷ ls) at image = low l (get_or image at 0) ∷ low_words ls (suc at) image

-- What words from a place on read as for the field of a name.
abbrev pub numbers_from : List Field → ℕ → List ℕ → Numbers
numbers_from [] at image name = []
numbers_from (f ∷ fs) at image name =
    elim (eqt (name_of f) name) [
      | true ↦ low_words (replicate (size f) (limit_of f)) at image
      | false ↦ numbers_from fs (at + size f) image name
    ]

abbrev pub numbers_of : List ℕ → Numbers
numbers_of = numbers_from fields 1

unfoldable pub state_of : List ℕ → Decoder
state_of image = state_from (numbers_of image)

abbrev pub same_words : List ℕ → List ℕ → Bool
same_words [] [] = true
same_words [] (y ∷ ys) = false
same_words (x ∷ xs) [] = false
same_words (x ∷ xs) (y ∷ ys) = eqb x y && same_words xs ys

-- Well-formed: the words are those that the state they read as is written as. Any others are malformed.
unfoldable pub image_fits : List ℕ → Bool
image_fits image = eqb (length image) image_length && same_words (image_of (state_of image)) image

-- A number within a limit.
abbrev pub Keeps : Limit → ℕ → Type 0
Keeps whole w = Unit {0}
Keeps (bits n) w = w < 2 ^ n
Keeps (up_to m) w = w ≤ m

-- Well-formed by widths, word by word, as the header has it: the same words and no others (promises, `Hosts`).
pub record Formed (image : List ℕ) : Type 0 where
  pub long : length image ≡ image_length
  pub layout_is : get_or image 0 0 ≡ layout
  pub keeps : (n : ℕ) → n < length word_limits → Keeps (get_or word_limits n whole) (get_or image (1 + n) 0)

-- The numbers of a state within their limits, and its arrays too, each of 16. A flag or a phase always is.
abbrev pub NumbersKeep : List Field → Decoder → Type 0
NumbersKeep [] d = Unit {0}
NumbersKeep (number name limit get ∷ fs) d = Keeps limit (get d) × NumbersKeep fs d
NumbersKeep (flag name get ∷ fs) d = NumbersKeep fs d
NumbersKeep (phase name get ∷ fs) d = NumbersKeep fs d
NumbersKeep (array name limit get ∷ fs) d = NumbersKeep fs d

pub record ArrayKeeps (limit : Limit) (numbers : List ℕ) : Type 0 where
  pub long : length numbers ≡ 16
  pub keeps : (n : ℕ) → n < 16 → Keeps limit (get_or numbers n 0)

abbrev pub ArraysKeep : List Field → Decoder → Type 0
ArraysKeep [] d = Unit {0}
ArraysKeep (number name limit get ∷ fs) d = ArraysKeep fs d
ArraysKeep (flag name get ∷ fs) d = ArraysKeep fs d
ArraysKeep (phase name get ∷ fs) d = ArraysKeep fs d
ArraysKeep (array name limit get ∷ fs) d = ArrayKeeps limit (get d) × ArraysKeep fs d

-- The widths of a state's fields. Every state of a program has them, by its types.
pub record Widths (d : Decoder) : Type 0 where
  pub numbers : NumbersKeep fields d
  pub arrays : ArraysKeep fields d
