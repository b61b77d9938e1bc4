-- The library for hosts: a call on an image is the call on its state, and the image carries the state whole.
-- Assumes nothing.
use Rattle.std.specs.Prelude.{◌≡◌, true, false, List, ℕ, ◌≤◌, length}
use Rattle.plans.specs.Plan.{plan_fits}
use Rattle.decoder.specs.declared.Decoder.{Decoder}
use Rattle.decoder.specs.Opening.{open_of, opening_number}
use Rattle.calls.specs.Take.{Call, take_within, take_of}
use Rattle.image_fields.specs.Image.{image_length, image_of, state_of, image_fits, Widths, Formed}
use Rattle.image_fields.specs.InNumbers.{LayoutInNumbers}
use Rattle.host_plans.specs.Plans.{empty_plan, plan_of}
use Rattle.host_opening.specs.Open.{open_result_of}
use Rattle.host_results.specs.Take.{result_length, refused_call, answered, take_result_by, take_result_of}

-- The image of a state is well-formed, and read back it is that state.
pub record RoundTrip (d : Decoder) : Type 0 where
  pub fits : image_fits (image_of d) ≡ true
  pub back : state_of (image_of d) ≡ d

-- An opening writes the image of what the opening of its plan gives, refused or not, and answers its number. The empty plan, to which numbers too wide
-- for a plan come, does not open.
pub record SameOpening (mask csr feen cnt cycle : ℕ) (image : List ℕ) : Type 0 where
  pub number : (open_result_of mask csr feen cnt cycle image).number ≡ opening_number (open_of (plan_of mask csr feen cnt) cycle).opening
  pub written : (open_result_of mask csr feen cnt cycle image).image ≡ image_of (open_of (plan_of mask csr feen cnt) cycle).decoder

-- A call on the image of a state, whatever the state and the call, answers what the call on that state leaves.
abbrev pub SameCall : Decoder → Type 0
SameCall d =
    (result : List ℕ) → length result ≡ result_length → (c : Call) → take_result_of (image_of d) result c ≡ answered (image_of d) result (take_of d c)

-- A call that answers a number but 0 leaves image, result, store, tray and list as they were, whatever words the image has.
abbrev pub Unchanged : List ℕ → List ℕ → Call → Type 0
Unchanged image result c =
    let after = take_result_of image result c in
    (after.number ≡ 0 → ⊥) → after ≡ refused_call after.number image result c

-- "A call with at most 65,536 bytes answers as before" (document 02, F-6), whatever words the image and the result have.
abbrev pub HostAsBefore : List ℕ → List ℕ → Call → Type 0
HostAsBefore image result c = length c.input ≤ 65536 → take_result_of image result c ≡ take_result_by (take_within 65536) image result c

-- What is well-formed by the round trip is well-formed by widths, and the other way round.
pub record ByWidths (image : List ℕ) : Type 0 where
  pub only : image_fits image ≡ true → Formed image
  pub all : Formed image → image_fits image ≡ true

pub record HostPromise : Type 0 where
  pub in_numbers : LayoutInNumbers
  pub round_trip : (d : Decoder) → Widths d → RoundTrip d
  pub by_widths : (image : List ℕ) → ByWidths image
  pub same_opening : (mask csr feen cnt cycle : ℕ) (image : List ℕ) → length image ≡ image_length → SameOpening mask csr feen cnt cycle image
  pub empty_refused : plan_fits empty_plan ≡ false
  pub same_call : (d : Decoder) → Widths d → SameCall d
  pub unchanged : (image result : List ℕ) (c : Call) → Unchanged image result c
  pub as_before : (image result : List ℕ) (c : Call) → HostAsBefore image result c
