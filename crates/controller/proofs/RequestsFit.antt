-- Every request of the recogniser fits, as `act` requires.
-- Assumes nothing.
use mathlib.Core.Bool.{true}
use mathlib.Core.Path.{◌≡◌, refl}
use Prim.Native.Nat.{ℕ}
use native.Mathlib.Omega.{arith}
use lib.Dec.{ltb, leb, eqb}
use borrow.Author.Tests.{lt-ltb, leb-true}
use Rattle.bits.specs.Bits.{shifted}
use Rattle.bits.proofs.Truth.{both, choice}
use Rattle.recogniser.specs.declared.Phase.{Phase}
use Rattle.recogniser.specs.declared.Phase.TheVariants.{Hunt, Body, Field3, Field4, Field5}
use Rattle.windows.specs.declared.Meaning.{Meaning}
use Rattle.windows.specs.declared.Meaning.TheVariants.{Quiet, Trigger, Header}
use Rattle.recogniser.specs.declared.Request.{Request}
use Rattle.recogniser.specs.declared.Recogniser.{Recogniser}
use Rattle.recogniser.specs.declared.Transition.{Transition}
use Rattle.windows.specs.Windows.{meaning_of, is_fast}
use Rattle.recogniser.specs.Hunting.{hunt_by}
use Rattle.slow_fields.specs.Slow.{is_slow, is_frame, length_of}
use Rattle.recogniser.specs.Fields.{ends_of}
use Rattle.recogniser.specs.Step.{step_by, step_of}
use Rattle.controller.specs.Requests.{request_fits}

abbrev Fits : Request → Type 0
Fits e = request_fits e ≡ true

abbrev TransitionFits : Transition → Type 0
TransitionFits h = Fits h.event.request

frame_low : (command : ℕ) → is_frame command ≡ true → ltb command 16 ≡ true
frame_low command e =
    let p = leb-true command 6 (both (leb 4 command) (leb command 6) e).1 in
    lt-ltb command 16 (omega arith)

hunt_fits : (w : ℕ) (meaning : Meaning) → TransitionFits (hunt_by w meaning)
hunt_fits w Quiet = refl
hunt_fits w (Trigger position) = refl
hunt_fits w Header = refl

phase_fits : (phase : Phase) (r : Recogniser) (bit cnt : ℕ) → TransitionFits (step_by phase r bit cnt)
phase_fits Hunt r bit cnt = hunt_fits _ (meaning_of (shifted 5 r.shift bit))
phase_fits Body r bit cnt =
    let body = shifted 4 r.shift bit in
    choice TransitionFits (ltb r.count 3) (λ _. refl)
    (λ _. choice TransitionFits (is_fast body) (λ _. lt-ltb body 16 (omega arith))
    (λ _. choice TransitionFits (eqb body 0b1011) (λ _. refl) (λ _. refl)))
phase_fits Field3 r bit cnt = choice TransitionFits (ltb r.count 3) (λ _. refl) (λ _. refl)
phase_fits Field4 r bit cnt =
    choice TransitionFits (ltb r.count 3) (λ _. refl)
    (λ _. choice TransitionFits (ltb 0 (length_of r.command cnt)) (λ _. refl)
    (λ _. choice TransitionFits (is_frame r.command) (frame_low r.command)
    (λ _. choice Fits (is_slow r.command) (λ _. refl) (λ _. refl))))
phase_fits Field5 r bit cnt =
    choice TransitionFits (is_frame r.command)
    (λ e. choice TransitionFits (ends_of r cnt) (λ _. frame_low r.command e) (λ _. refl))
    (λ _. choice TransitionFits (ends_of r cnt) (λ _. choice Fits (is_slow r.command) (λ _. refl) (λ _. refl)) (λ _. refl))

pub step_request_fits : (r : Recogniser) (bit cnt : ℕ) → request_fits (step_of r bit cnt).event.request ≡ true
unfolding step_of
step_request_fits r bit cnt = phase_fits r.phase r bit cnt
