-- The image of a state, read back, is the state; and it is well-formed.
-- Assumes nothing.
use mathlib.Core.Bool.{Bool, true, false}
use mathlib.Core.List.{List, [], ◌∷◌, ◌++◌, append_assoc}
use mathlib.Core.Path.{◌≡◌, refl, ap, ap₂, sym, fun_ext, ◌∙◌}
use Prim.Native.Nat.{ℕ, ◌+◌, ◌<◌}
use Prim.Native.String.{String}
use native.Mathlib.Omega.{arith}
use lib.Dec.{eqb}
use lib.ListN.{length, get_or, replicate, length-append, length-replicate, get_or-replicate, get_or-append}
use lib.Seq.{get_or-append-add}
use lib.Text.{eqt}
use mir.Val.{bool_byte}
use borrow.Author.Tests.{eq-eqb, eqb-true}
use Rattle.bits.proofs.Truth.{both}
use Rattle.recogniser.specs.declared.Phase.{Phase}
use Rattle.recogniser.specs.declared.Phase.TheVariants.{Hunt, Body, Field3, Field4, Field5}
use Rattle.decoder.specs.declared.Decoder.{Decoder}
use Rattle.image_fields.specs.Fields.{whole, Field, fields, phase_number, phase_of, name_of, size, limit_of, numbers_in, Numbers, state_from}
use Rattle.image_fields.specs.Image.{image_length, layout, field_words, image_of, low_words, numbers_from, state_of, same_words, image_fits, Widths}
use Rattle.image_fields.proofs.LowWords.{low_words_same}
use Rattle.image_fields.proofs.Widths.{Within, WithinAll, within, image_length_lem}

-- A field that stands behind others reads as the state's numbers.
field_back : (d : Decoder) (f : Field) → Within d f → (front rest : List ℕ) (at : ℕ) → length front ≡ at
    → low_words (replicate (size f) (limit_of f)) at (front ++ (numbers_in f d ++ rest)) ≡ numbers_in f d
field_back d f w front rest at e =
    let ls = replicate (size f) (limit_of f) in
    let count : length ls ≡ size f = length-replicate (size f) (limit_of f) in
    low_words_same ls at (front ++ (numbers_in f d ++ rest)) (numbers_in f d) (w.long ∙ sym count)
    (λ (n : ℕ) (h : n < length ls).
    ap (λ (k : ℕ). get_or (front ++ (numbers_in f d ++ rest)) (k + n) 0) (sym e)
    ∙ get_or-append-add front (numbers_in f d ++ rest) n 0
    ∙ get_or-append (numbers_in f d) rest 0 n (omega (arith, h, count, w.long)))
    (λ (n : ℕ) (h : n < length ls).
    let inside : n < size f = omega (arith, h, count) in
    rw (get_or-replicate (size f) n (limit_of f) whole inside) (w.keeps n inside))

-- The state's numbers by the fields' names.
abbrev state_numbers : Decoder → List Field → Numbers
state_numbers d [] name = []
state_numbers d (f ∷ fs) name = elim (eqt (name_of f) name) [ true ↦ numbers_in f d | false ↦ state_numbers d fs name ]

module _ (d : Decoder) (name : String) where
  numbers_back : (fs : List Field) → WithinAll d fs → (front : List ℕ) (at : ℕ) → length front ≡ at
      → numbers_from fs at (front ++ field_words fs d) name ≡ state_numbers d fs name
  numbers_back [] w front at e = refl
  numbers_back (f ∷ fs) w front at e =
      let here = field_back d f w.0 front (field_words fs d) at e in
      let there = numbers_back fs w.1 (front ++ numbers_in f d) (at + size f) (omega (arith, length-append front (numbers_in f d), e, w.0.long)) in
      ap₂ (λ (a b : List ℕ). elim (eqt (name_of f) name) [ true ↦ a | false ↦ b ]) here (rw append_assoc at there)

flag_back : (b : Bool) → eqb (bool_byte b) 1 ≡ b
flag_back true = refl
flag_back false = refl

phase_back : (p : Phase) → phase_of (phase_number p) ≡ p
phase_back Hunt = refl
phase_back Body = refl
phase_back Field3 = refl
phase_back Field4 = refl
phase_back Field5 = refl

-- A state is made of its own numbers.
made_back : (d : Decoder) → state_from (state_numbers d fields) ≡ d
made_back d = simp (flag_back, phase_back)

pub read_back : (d : Decoder) → Widths d → state_of (image_of d) ≡ d
unfolding image_of state_of
read_back d w = ap state_from (fun_ext (λ (name : String). numbers_back d name fields (within d w) (layout ∷ []) 1 refl)) ∙ made_back d

-- What is well-formed has the image's length, and the image of a state is well-formed.
pub fits_length : (image : List ℕ) → image_fits image ≡ true → length image ≡ image_length
unfolding image_fits
fits_length image e = eqb-true (length image) image_length (both (eqb (length image) image_length) _ e).0

same_as_itself : (ws : List ℕ) → same_words ws ws ≡ true
same_as_itself [] = refl
same_as_itself (w ∷ ws) = simp (eq-eqb w w refl) (same_as_itself ws)

pub written_fits : (d : Decoder) (image : List ℕ) → length image ≡ image_length → image ≡ image_of d → state_of image ≡ d → image_fits image ≡ true
unfolding image_fits
written_fits d image long is back =
    let same : image_of (state_of image) ≡ image = ap image_of back ∙ sym is in
    rw (same, long, same_as_itself image)

pub image_fits_lem : (d : Decoder) → Widths d → image_fits (image_of d) ≡ true
image_fits_lem d w = written_fits d (image_of d) (image_length_lem d w) refl (read_back d w)
