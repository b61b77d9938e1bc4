-- The library for hosts, proved.
-- Assumes nothing.
use mathlib.Core.Path.{◌≡◌, ◌∙◌, refl, sym, ap, subst}
use mathlib.Core.Bool.{Bool, true, false}
use mathlib.Core.List.{List}
use Prim.Native.Nat.{ℕ}
use lib.Dec.{eqb}
use lib.ListN.{length}
use borrow.Author.Tests.{eq-eqb, ne_eqb}
use Rattle.plans.specs.Plan.{plan_fits}
use Rattle.decoder.specs.declared.Decoder.{Decoder}
use Rattle.decoder.specs.Sound.{sound_of}
use Rattle.calls.specs.declared.Ending.{Ending}
use Rattle.calls.specs.Take.{Call, CallResult, refused, take_of, ending_number}
use Rattle.calls.proofs.Refusals.{unsound}
use Rattle.image_fields.specs.Image.{image_length, image_of, state_of, Widths}
use Rattle.image_fields.proofs.InNumbers.{in_numbers}
use Rattle.image_fields.proofs.RoundTrip.{image_fits_lem, read_back}
use Rattle.image_fields.proofs.WellFormed.{formed, formed_fits}
use Rattle.host_plans.specs.Plans.{empty_plan}
use Rattle.host_opening.specs.Open.{open_result_of}
use Rattle.host_opening.specs.Holding.{sound_image}
use Rattle.host_results.specs.Take.{TakeResult, result_length, refused_call, answered, take_result_by, take_result_of}
use Rattle.host_promises.specs.Hosts.{RoundTrip, SameOpening, Unchanged, HostAsBefore, HostPromise}
use Rattle.promises.proofs.Refusals.{first_demand}

round_trip : (d : Decoder) → Widths d → RoundTrip d
round_trip d w = record { fits = image_fits_lem d w; back = read_back d w }

module _ (d : Decoder) (w : Widths d) (result : List ℕ) (long : length result ≡ result_length) (c : Call) where
  -- by the state's soundness: an unsound one is rejected on both sides
  same_by : (b : Bool) → sound_of d ≡ b → take_result_of (image_of d) result c ≡ answered (image_of d) result (take_of d c)
  unfolding take_result_of
  same_by true s = rw (image_fits_lem d w, read_back d w, s, eq-eqb (length result) result_length long)
  same_by false s = rw (image_fits_lem d w, read_back d w, s) (sym (ap (answered (image_of d) result) (unsound d c s)))

module _ (image result : List ℕ) (c : Call) where
  -- a refusal of the call on the state
  rejected_call : (d : Decoder) (ending : Ending) → (ending_number ending ≡ 0 → ⊥)
      → answered image result (refused d c ending) ≡ refused_call (ending_number ending) image result c
  rejected_call d ending some = simp (ne_eqb (ending_number ending) 0 some)

  abbrev Kept : TakeResult → Type 0
  Kept after = (after.number ≡ 0 → ⊥) → after ≡ refused_call after.number image result c

  handed_kept : (d : Decoder) → Kept (answered image result (take_of d c))
  handed_kept d some =
      let takes = first_demand.takes d c in
      let rejected = takes.rejected (ne_eqb _ 0 (λ z. some (takes.number ∙ z))) in
      subst (λ (l : CallResult). Kept (answered image result l)) (sym rejected.1) (rejected_call d rejected.0) some

  whole : sound_image image ≡ true → eqb (length result) result_length ≡ true → take_result_of image result c ≡ answered image result (take_of (state_of image) c)
  unfolding take_result_of
  whole e f = rw (e, f)

  unchanged_by : (s t : Bool) → sound_image image ≡ s → eqb (length result) result_length ≡ t → Unchanged image result c
  unfolding take_result_of
  unchanged_by false t e f = λ some. rw e
  unchanged_by true false e f = λ some. rw (e, f)
  unchanged_by true true e f = subst Kept (sym (whole e f)) (handed_kept (state_of image))

  as_before : HostAsBefore image result c
  unfolding take_result_of
  as_before h = ap (λ (l : CallResult). take_result_by (λ _ _. l) image result c) (first_demand.as_before (state_of image) c h)

module _ (mask csr feen cnt cycle : ℕ) (image : List ℕ) (long : length image ≡ image_length) where
  same_opening : SameOpening mask csr feen cnt cycle image
  unfolding open_result_of
  same_opening =
      let e = eq-eqb (length image) image_length long in
      record { number = rw e; written = rw e }

empty_refused : plan_fits empty_plan ≡ false
unfolding plan_fits
empty_refused = refl

pub host_promise : HostPromise
host_promise = record {
  in_numbers = in_numbers;
  round_trip = round_trip;
  by_widths = λ image. record { only = formed image; all = formed_fits image };
  same_opening = same_opening;
  empty_refused = empty_refused;
  same_call = λ d w result long c. same_by d w result long c (sound_of d) refl;
  unchanged = λ image result c. unchanged_by image result c (sound_image image) (eqb (length result) result_length) refl refl;
  as_before = as_before;
}
