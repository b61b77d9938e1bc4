-- What each way through a taking call on an image leaves, against its definition.
-- Assumes nothing.
use mathlib.Core.Bool.{Bool, true, false, cond}
use mathlib.Core.List.{List}
use mathlib.Core.Path.{◌≡◌, sym, ap, subst, ◌∙◌}
use Prim.Native.Nat.{ℕ}
use lib.Dec.{eqb, T}
use lib.ListN.{length}
use borrow.Author.Tests.{eq-eqb, ne_eqb}
use Rattle.bits.proofs.Truth.{both}
use Rattle.decoder.specs.declared.Decoder.{Decoder}
use Rattle.decoder.specs.Sound.{sound_of}
use Rattle.calls.specs.Take.{Call, CallResult, take_of, ending_number}
use Rattle.calls.proofs.SoundnessKept.{take_sound}
use Rattle.image_fields.specs.Image.{image_length, image_of, state_of, image_fits}
use Rattle.image_fields.proofs.RoundTrip.{fits_length}
use Rattle.host_opening.specs.Holding.{sound_image, Holds}
use Rattle.host_opening.proofs.Holding.{holds}
use Rattle.host_results.specs.Take.{TakeResult, take_result, result_length, result_words, refused_call, answered, take_result_of}

pub sound_length : (image : List ℕ) → sound_image image ≡ true → length image ≡ image_length
sound_length image e = fits_length image (both (image_fits image) _ e).0

-- After a call the image holds the next state, which is sound since the one before was.
pub moved_on : (image : List ℕ) (c : Call) → sound_image image ≡ true → (d : Decoder) → d ≡ (take_of (state_of image) c).taken.decoder
    → (image' : List ℕ) → length image' ≡ length image → image' ≡ image_of d → state_of image' ≡ d → Holds image' (take_of (state_of image) c).taken.decoder
moved_on image c sound d e image' long is back =
    let before = subst T (sym (both (image_fits image) (sound_of (state_of image)) sound).1) tt in
    holds _ image' (take_sound (state_of image) c before) (long ∙ sound_length image sound) (is ∙ ap image_of e) (back ∙ e)

module _ (image result : List ℕ) (c : Call) where
  pub unsound : sound_image image ≡ false → refused_call 3 image result c ≡ take_result_of image result c
  unfolding take_result_of
  unsound e = simp e

  module _ (sound : sound_image image ≡ true) where
    pub no_result : (length result ≡ result_length → ⊥) → refused_call 4 image result c ≡ take_result_of image result c
    unfolding take_result_of
    no_result wrong = simp (sound, ne_eqb (length result) result_length wrong)

    module _ (long : length result ≡ result_length) (d : Decoder) (is : d ≡ state_of image) (l : CallResult) (e : l ≡ take_of d c)
        (number : ℕ) (n : number ≡ ending_number l.taken.report.ending) where
      whole : answered image result l ≡ take_result_of image result c
      unfolding take_result_of
      whole =
          simp (sound, eq-eqb (length result) result_length long)
          (ap (answered image result) (e ∙ ap (λ (d : Decoder). take_of d c) is))

      abbrev pub after : ℕ → List ℕ → List ℕ → TakeResult
      after number image result = take_result number image result l.store l.tray l.list

      abbrev by : Bool → TakeResult
      by fit =
          after (ending_number l.taken.report.ending)
          (cond fit (image_of l.taken.decoder) image)
          (cond fit (result_words l.taken.report) result)

      handed : (fit : Bool) → eqb (ending_number l.taken.report.ending) 0 ≡ fit → by fit ≡ take_result_of image result c
      handed fit f = ap by (sym f) ∙ whole

      pub refused : (number ≡ 0 → ⊥) → after number image result ≡ take_result_of image result c
      refused some = ap (λ (k : ℕ). after k image result) n ∙ handed false (ne_eqb _ 0 (λ z. some (n ∙ z)))

      pub accepted : number ≡ 0 → (image' result' : List ℕ) → image' ≡ image_of l.taken.decoder → result' ≡ result_words l.taken.report
          → after 0 image' result' ≡ take_result_of image result c
      accepted none image' result' i t =
          let zero : 0 ≡ ending_number l.taken.report.ending = sym none ∙ n in
          (λ k. after (zero k) (i k) (t k)) ∙ handed true (eq-eqb _ 0 (sym zero))
