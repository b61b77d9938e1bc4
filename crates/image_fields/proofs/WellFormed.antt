-- Well-formed by the round trip is well-formed by widths.
-- Assumes nothing.
use mathlib.Core.Bool.{true}
use mathlib.Core.List.{List, [], ◌∷◌}
use mathlib.Core.Path.{◌≡◌, refl, ap, sym, subst, ◌∙◌}
use Prim.Native.Nat.{ℕ, zero, suc, ◌+◌, ◌<◌, ◌%◌}
use native.Mathlib.Nat.{mod-lt}
use native.Mathlib.Omega.{arith}
use lib.Dec.{eqb}
use lib.ListN.{length, get_or, drop, replicate, length-drop}
use lib.Seq.{drop-cons, get_or-drop}
use mir.Val.{bool_byte}
use borrow.Author.Tests.{eqb-true}
use Rattle.bits.proofs.Truth.{both}
use Rattle.image_fields.specs.Fields.{Limit, whole, bits, phase_number, phase_of}
use Rattle.image_fields.specs.Image.{image_length, layout, word_limits, image_of, low_words, state_of, same_words, image_fits, Keeps, Formed}
use Rattle.image_fields.specs.Image.{ArrayKeeps, Widths}
use Rattle.image_fields.proofs.LowWords.{low_keeps, low_at, low_words_same, length_even, even_at}
use Rattle.image_fields.proofs.RoundTrip.{fits_length, written_fits}

-- Words that are the same are equal.
same_equal : (xs ys : List ℕ) → same_words xs ys ≡ true → xs ≡ ys
same_equal [] [] e = refl
same_equal [] (y ∷ ys) e = cc
same_equal (x ∷ xs) [] e = cc
same_equal (x ∷ xs) (y ∷ ys) e =
    let parts = both (eqb x y) (same_words xs ys) e in
    (λ i. eqb-true x y parts.0 i ∷ same_equal xs ys parts.1 i)

-- What reads a flag or a phase loses nothing of its word's low part.
flag_low : (w : ℕ) → w < 2 → bool_byte (eqb w 1) ≡ w
flag_low zero h = refl
flag_low (suc zero) h = refl
flag_low (suc (suc w)) h = absurd (omega (arith, h))

phase_low : (w : ℕ) → w < 5 → phase_number (phase_of w) ≡ w
phase_low zero h = refl
phase_low (suc zero) h = refl
phase_low (suc (suc zero)) h = refl
phase_low (suc (suc (suc zero))) h = refl
phase_low (suc (suc (suc (suc zero)))) h = refl
phase_low (suc (suc (suc (suc (suc w))))) h = absurd (omega (arith, h))

flag_word : (w : ℕ) → bool_byte (eqb (w % 2) 1) ≡ w % 2
flag_word w = flag_low (w % 2) (mod-lt w (omega arith))

phase_word : (w : ℕ) → phase_number (phase_of (w % 5)) ≡ w % 5
phase_word w = phase_low (w % 5) (mod-lt w (omega arith))

-- Words, read and written again, are their low parts: this is where the table and the state that is made by its names meet.
again : (image : List ℕ) → image_of (state_of image) ≡ layout ∷ low_words word_limits 1 image
unfolding image_of state_of
again image = simp (flag_word, phase_word)

module _ (image : List ℕ) where
  pub read_again : image_fits image ≡ true → image_of (state_of image) ≡ image
  unfolding image_fits
  read_again e = same_equal (image_of (state_of image)) image (both (eqb (length image) image_length) _ e).1

  pub formed : image_fits image ≡ true → Formed image
  formed e =
      let same : layout ∷ low_words word_limits 1 image ≡ image = sym (again image) ∙ read_again e in
      record {
        long = fits_length image e;
        layout_is = sym (ap (λ (l : List ℕ). get_or l 0 0) same);
        keeps = λ (n : ℕ) (h : n < length word_limits).
            let next : suc n ≡ 1 + n = omega arith in
            let is = sym (low_at word_limits 1 image n h) ∙ ap (λ (l : List ℕ). get_or l (suc n) 0) same ∙ ap (λ (k : ℕ). get_or image k 0) next in
            subst (Keeps (get_or word_limits n whole)) is (low_keeps (get_or word_limits n whole) (get_or image (1 + n) 0));
      }

  module _ (f : Formed image) where
    rest_same : low_words word_limits 1 image ≡ drop 1 image
    rest_same =
        low_words_same word_limits 1 image (drop 1 image) (omega (arith, length-drop 1 image, f.long))
        (λ (n : ℕ) h. sym (get_or-drop 1 image n 0))
        (λ (n : ℕ) h. rw (get_or-drop 1 image n 0) (f.keeps n h))

    rebuilt : image_of (state_of image) ≡ image
    rebuilt = again image ∙ (λ i. sym f.layout_is i ∷ rest_same i) ∙ sym (drop-cons image 0 0 (omega (arith, f.long)))

    pub formed_fits : image_fits image ≡ true
    formed_fits = written_fits (state_of image) image f.long (sym rebuilt) refl

-- What any words read as has the widths of a state.
array_low : (l : Limit) (at : ℕ) (image : List ℕ) → ArrayKeeps l (low_words (replicate 16 l) at image)
array_low l at image = record { long = length_even l 16 at image; keeps = λ n h. rw (even_at l 16 at image n h) (low_keeps l (get_or image (at + n) 0)) }

pub read_widths : (image : List ℕ) → Widths (state_of image)
unfolding state_of
read_widths image = record {
  numbers = (
    omega arith,
    (
      omega arith,
      (
        omega arith,
        (
          omega arith,
          (
            tt,
            (omega arith, (omega arith, (omega arith, (omega arith, (omega arith, (omega arith, (omega arith, (tt, (tt, (omega arith, tt)))))))))),
          ),
        ),
      ),
    ),
  );
  arrays = (array_low (bits 16) 22 image, (array_low (bits 8) 38 image, (array_low (bits 8) 54 image, tt)));
}
