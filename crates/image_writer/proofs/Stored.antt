-- Fields stored one after the other, each at its place, fill the image.
-- Assumes nothing.
use mathlib.Core.List.{List, [], ◌∷◌, ◌++◌, append_assoc}
use mathlib.Core.Path.{◌≡◌, refl, ap, sym, ◌∙◌}
use Prim.Native.Nat.{ℕ, ◌+◌, ◌≤◌}
use native.Mathlib.Omega.{arith}
use lib.ListN.{length, drop, replicate, length-append, length-drop, length-replicate, drop_of_length-le}
use lib.Seq.{sets, sets-eq, take_at, drop-append-add}
use Rattle.decoder.specs.declared.Decoder.{Decoder}
use Rattle.image_fields.specs.Fields.{Field, scalars, arrays, size, limit_of, numbers_in}
use Rattle.image_fields.specs.Image.{image_length, field_words, word_limits_of, image_of, word_place, scalars_of, Widths}
use Rattle.image_fields.proofs.Widths.{WithinAll, arrays_within}

-- A part behind those that are stored.
placed : (done rest part : List ℕ) (at : ℕ) → length done ≡ at → length part ≤ length rest
    → sets (done ++ rest) at part ≡ done ++ part ++ drop (length part) rest
placed done rest part at e fit =
    sets-eq part (done ++ rest) at (omega (arith, e, fit, length-append done rest))
    ∙ ap (λ (h : List ℕ). h ++ part ++ drop (at + length part) (done ++ rest)) (take_at done rest at e)
    ∙ ap (λ (t : List ℕ). done ++ part ++ t)
    (ap (λ (k : ℕ). drop (k + length part) (done ++ rest)) (sym e) ∙ drop-append-add done rest (length part))

abbrev pub stored : List Field → ℕ → Decoder → List ℕ → List ℕ
stored [] at d image = image
stored (f ∷ fs) at d image = stored fs (at + size f) d (sets image at (numbers_in f d))

stored_is : (d : Decoder) (fs : List Field) → WithinAll d fs → (done rest : List ℕ) (at : ℕ) → length done ≡ at → length rest ≡ length (word_limits_of fs)
    → stored fs at d (done ++ rest) ≡ done ++ field_words fs d
stored_is d [] w done rest at e long = ap (λ (t : List ℕ). done ++ t) (drop_of_length-le rest {i = 0} (omega (arith, long)))
stored_is d (f ∷ fs) w done rest at e long =
    let part = numbers_in f d in
    let fit : length rest ≡ size f + length (word_limits_of fs) =
    omega (arith, long, length-append (replicate (size f) (limit_of f)) (word_limits_of fs), length-replicate (size f) (limit_of f)) in
    let left = drop (length part) rest in
    ap (stored fs (at + size f) d) (placed done rest part at e (omega (arith, fit, w.0.long)))
    ∙ stored_is d fs w.1 (done ++ part) left (at + size f) (omega (arith, length-append done part, e, w.0.long))
    (omega (arith, length-drop (length part) rest, fit, w.0.long))
    ∙ append_assoc done part (field_words fs d)

-- The scalars, and then the arrays.
pub written : (d : Decoder) → Widths d → (image : List ℕ) → length image ≡ image_length
    → stored arrays (word_place "registers") d (sets image 0 (scalars_of d)) ≡ image_of d
unfolding image_of
written d w image long =
    let s = scalars_of d in
    ap (stored arrays (length s) d) (placed [] image s 0 refl (omega (arith, long)))
    ∙ stored_is d arrays (arrays_within d w) s (drop (length s) image) (length s) refl (omega (arith, long, length-drop (length s) image))
