-- Opening gives a sound state, and a sound state stays sound over every cycle and every taking call.
-- Assumes nothing.
use mathlib.Core.Bool.{true, false, not}
use mathlib.Core.List.{List}
use mathlib.Core.Path.{◌≡◌, ◌∙◌, refl}
use Prim.Native.Nat.{ℕ, zero, suc, ◌+◌, ◌-◌, ◌<◌, ◌≤◌}
use native.Mathlib.Nat.{le_refl}
use native.Mathlib.Omega.{arith}
use lib.Dec.{T, leb}
use lib.ListN.{length, take}
use borrow.Author.Tests.{leb-true, leb-false, not-false}
use Rattle.bits.specs.Bits.{bit_of, bits_of}
use Rattle.bits.specs.Range.{range_fits}
use Rattle.bits.proofs.Truth.{choice}
use Rattle.recogniser.specs.declared.Request.TheVariants.{Slow}
use Rattle.recogniser.specs.declared.SlowRequest.TheVariants.{LeaveRunMode}
use Rattle.recogniser.specs.declared.Recogniser.{Recogniser}
use Rattle.recogniser.specs.declared.Transition.{Transition}
use Rattle.plans.specs.declared.Plan.{Plan}
use Rattle.registers.specs.declared.Model.{Model}
use Rattle.plans.specs.Plan.{plan_fits, default_plan}
use Rattle.registers.specs.Registers.{cnt_of}
use Rattle.controller.proofs.EffectKeeps.{after, zeros_fit, zeros_missing, writes_fit, reads_fit, missing_zero_lem, base_low, cnt_kept, leave_stops, running_kept}
use Rattle.controller.proofs.RequestsFit.{step_request_fits}
use Rattle.controller.proofs.RecordStamps.{Stamped, stamped}
use Rattle.timing.proofs.Flagged.{below_next}
use Rattle.fit_recognisers.specs.Fit.{fit_of}
use Rattle.decoder.specs.declared.Decoder.{Decoder}
use Rattle.decoder.specs.declared.Opened.{Opened}
use Rattle.limits.specs.Limits.{clock_limit}
use Rattle.decoder.specs.Opening.{opened_at, open_of}
use Rattle.decoder.specs.Sound.{inside_slow, sound_of}
use Rattle.fit_recognisers.proofs.StepsFit.{start_fits, step_fits}
use Rattle.decoder.proofs.Soundness.{sound, sound_parts}
use Rattle.calls.specs.Run.{run_of, state_after}
use Rattle.calls.specs.Turn.{System, decoder_of, cnt_at, effect_at, transition_of, turn_of}
use Rattle.calls.specs.Take.{Call, CallResult, offered, lent, buffers_fit, clock_fits, taken_of, take_of}
use Rattle.calls.proofs.RunFaithful.{run_faithful}
use Rattle.calls.proofs.SlowSteps.{Steps, over, begins, goes_on, slow_steps}

-- The start state of a plan that fits.
pub opened_sound : (plan : Plan) (cycle : ℕ) → plan_fits plan ≡ true → cycle ≤ clock_limit → T (sound_of (opened_at plan cycle))
opened_sound plan cycle p c = sound (opened_at plan cycle) (record {
  plan = p;
  next = c;
  base = le_refl cycle;
  earlier = refl;
  writes = zeros_fit;
  reads = zeros_fit;
  missing = zeros_missing plan (opened_at plan cycle).model refl;
  stopped = λ _. refl;
  fits = start_fits _;
})

default_fits : plan_fits default_plan ≡ true
unfolding plan_fits
default_fits = refl

-- Opening gives a sound state, also where it is refused.
pub start_sound : (plan : Plan) (cycle : ℕ) → T (sound_of (open_of plan cycle).decoder)
unfolding open_of
start_sound plan cycle =
    let P : Opened → Type 0 = λ o. T (sound_of o.decoder) in
    let default = opened_sound default_plan 0 default_fits (omega arith) in
    choice P (not (plan_fits plan)) (λ _. default)
    (λ p. choice P (leb clock_limit cycle) (λ _. default)
    (λ c. opened_sound plan cycle (not-false _ p) (omega (arith, leb-false clock_limit cycle c))))

-- RunMode stays off inside a Slow, and the recogniser stays fit by CNT as it then stands.
module _ (plan : Plan) (m : Model) (r : Recogniser) (time : ℕ) (store : List ℕ) where
  stays_stopped : {h : Transition} → Steps r h → (T (inside_slow r.phase) → m.running ≡ false)
      → T (inside_slow h.next.phase) → (after plan m h.event.request time store).running ≡ false
  stays_stopped over off t = absurd t
  stays_stopped begins off t = leave_stops plan m time store
  stays_stopped (goes_on {e = e} k inside) off t = running_kept plan m e time store k.running ∙ off (inside t)

  stays_fit : {h : Transition} → Steps r h → T (fit_of h.next (cnt_of plan m)) → T (fit_of h.next (cnt_of plan (after plan m h.event.request time store)))
  stays_fit over t = start_fits _
  stays_fit begins t = rw (cnt_kept plan m (Slow LeaveRunMode) time store refl) t
  stays_fit (goes_on {e = e} k inside) t = rw (cnt_kept plan m e time store k.registers) t

-- The record of a cycle has its time, and a kind and flags within their widths.
pub stamp : (s : System) (bit : ℕ) → Stamped s.machine.next (effect_at s.machine (transition_of s bit).event.request s.machine.next).acted.cycle
stamp s bit = let m = s.machine in stamped m.plan m.model m.next m.store _ (step_request_fits s.recogniser bit (cnt_at m))

-- A cycle keeps a sound state sound.
pub turn_sound : (s : System) (bit : ℕ) → bit < 2 → T (sound_of (decoder_of s)) → s.machine.next < clock_limit → T (sound_of (decoder_of (turn_of s bit).state))
unfolding turn_of
turn_sound s bit b t below =
    let m = s.machine in
    let parts = sound_parts (decoder_of s) t in
    let q = (transition_of s bit).event.request in
    let k = slow_steps s.recogniser bit (cnt_of m.plan m.model) in
    sound (decoder_of (turn_of s bit).state) (record {
      plan = parts.plan;
      next = omega arith;
      base = omega (arith, base_low m.plan m.model q m.next m.store parts.base);
      earlier = below_next m.earlier (cnt_at m) m.next (effect_at m q m.next).acted.cycle (stamp s bit) parts.earlier;
      writes = writes_fit m.plan m.model q m.next m.store parts.writes;
      reads = reads_fit m.plan m.model q m.next m.store parts.reads;
      missing = missing_zero_lem m.plan m.model q m.next m.store parts.missing;
      stopped = stays_stopped m.plan m.model s.recogniser m.next m.store k parts.stopped;
      fits = stays_fit m.plan m.model s.recogniser m.next m.store k (step_fits s.recogniser bit _ b parts.fits);
    })

-- So do the first bits of a range.
bits_sound : (input : List ℕ) (n count first : ℕ) (s : System) → T (sound_of (decoder_of s)) → s.machine.next + count ≤ clock_limit
    → T (sound_of (decoder_of (state_after turn_of s (take n (bits_of input first count)))))
unfolding turn_of
bits_sound input zero count first s t h = t
bits_sound input (suc n) zero first s t h = t
bits_sound input (suc n) (suc count) first s t h =
    bits_sound input n count (first + 1) (turn_of s (bit_of input first)).state
    (turn_sound s (bit_of input first) (omega arith) t (omega arith)) (omega arith)

module _ (d : Decoder) (c : Call) (t : T (sound_of d)) where
  taken_sound : d.next + c.count ≤ clock_limit → T (sound_of (taken_of d c).taken.decoder)
  unfolding taken_of
  taken_sound h =
      let room = length c.list - c.free in
      rw (run_faithful turn_of (offered c) (lent d c) room).state
      (bits_sound c.input (run_of turn_of (offered c) (lent d c) room).bits c.count c.first (lent d c) t h)

  -- So does a taking call, also where it is refused.
  pub take_sound : T (sound_of (take_of d c).taken.decoder)
  unfolding take_of
  take_sound =
      let P : CallResult → Type 0 = λ l. T (sound_of l.taken.decoder) in
      choice P (not (sound_of d)) (λ _. t)
      (λ _. choice P (not (buffers_fit (length c.store) (length c.tray) (length c.list) c.free)) (λ _. t)
      (λ _. choice P (not (range_fits (length c.input) c.first c.count)) (λ _. t)
      (λ _. choice P (not (clock_fits d.next c.count)) (λ _. t)
      (λ e. taken_sound (leb-true _ _ (not-false _ e))))))
