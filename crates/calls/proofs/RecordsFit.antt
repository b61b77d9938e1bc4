-- From a sound state whose registers and L1ID fit, each record written has a time below 2^48 and a value below 2^32.
-- Assumes nothing.
use mathlib.Core.Bool.{not}
use mathlib.Core.List.{List, [], ◌∷◌, ◌++◌}
use mathlib.Core.Logic.{⊎_elim}
use mathlib.Core.Path.{sym, subst}
use Prim.Native.Nat.{ℕ, zero, suc, ◌+◌, ◌^◌, ◌<◌, ◌≤◌}
use native.Mathlib.Omega.{arith}
use lib.Dec.{T, ltb, leb, eqb, ltb→lt, leb→le, eqb→eq}
use lib.ListN.{length, take}
use borrow.Author.Tests.{leb-true, not-false}
use Rattle.limits.specs.Limits.{clock_limit}
use Rattle.bits.specs.Bits.{bit_of, bits_of, shifted}
use Rattle.bits.specs.Range.{range_fits}
use Rattle.bits.proofs.Truth.{choice, cond_case, and_left, and_right, or_case}
use Rattle.bits.proofs.Shift.{shifted_fits}
use Rattle.recogniser.specs.declared.Phase.{Phase}
use Rattle.recogniser.specs.declared.Phase.TheVariants.{Hunt, Body, Field3, Field4, Field5}
use Rattle.recogniser.specs.declared.Recogniser.{Recogniser}
use Rattle.recogniser.specs.declared.Transition.{Transition}
use Rattle.windows.specs.Windows.{is_lv1, meaning_of, is_fast}
use Rattle.recogniser.specs.Hunting.{hunt_by}
use Rattle.slow_fields.specs.Slow.{is_slow, is_frame, length_of}
use Rattle.recogniser.specs.Fields.{ends_of}
use Rattle.recogniser.specs.Step.{step_by, step_of}
use Rattle.windows.proofs.Positions.{position_low}
use Rattle.decoder.specs.declared.Decoder.{Decoder}
use Rattle.fit_recognisers.specs.Fit.{has_field5, nibble_fits, fit_by, fit_of}
use Rattle.decoder.specs.Sound.{sound_of}
use Rattle.decoder.proofs.Soundness.{sound_parts}
use Rattle.records.specs.Records.{words_of}
use Rattle.controller.specs.Widths.{ModelFits, Narrow, WordsFit}
use Rattle.controller.proofs.EffectKeeps.{model_fits}
use Rattle.controller.proofs.RecordsFit.{cycle_fits}
use Rattle.timing.proofs.Flagged.{flagged_words_fit}
use Rattle.calls.specs.Run.{state_after, words_after}
use Rattle.calls.specs.Turn.{System, decoder_of, cnt_at, effect_at, transition_of, turn_of}
use Rattle.calls.specs.Take.{Call, CallResult, offered, lent, buffers_fit, clock_fits, taken_of, take_of}
use Rattle.calls.specs.Calls.{bits_taken, words_standing, all_words}
use Rattle.calls.proofs.CallLists.{call_kept}
use Rattle.calls.proofs.SoundnessKept.{stamp, turn_sound, take_sound}

abbrev NarrowStep : Transition → Type 0
NarrowStep h = Narrow h.event.request

hunt_narrow : (w : ℕ) → NarrowStep (hunt_by w (meaning_of w))
hunt_narrow w =
    cond_case (λ m. NarrowStep (hunt_by w m)) (is_lv1 w) (λ _. position_low w)
    (λ _. cond_case (λ m. NarrowStep (hunt_by w m)) (eqb w 0b10110) (λ _. tt) (λ _. tt))

field5_low : (command : ℕ) → T (has_field5 command) → command < 2 ^ 4
field5_low command t =
    ⊎_elim (λ h. let g = leb→le command 6 h in omega arith) (λ h. let g = eqb→eq command 10 h in omega arith)
    (or_case (leb command 6) (eqb command 10) t)

-- The fields of a sound state's request have four bits; an LV1's position is at most 5.
module _ (r : Recogniser) (bit cnt : ℕ) where
  phase_narrow : (p : Phase) → T (fit_by p r cnt) → NarrowStep (step_by p r bit cnt)
  phase_narrow Hunt t = hunt_narrow (shifted 5 r.shift bit)
  phase_narrow Body t =
      let low = shifted_fits 4 r.shift bit in
      cond_case NarrowStep (ltb r.count 3) (λ _. tt)
      (λ _. cond_case NarrowStep (is_fast (shifted 4 r.shift bit)) (λ _. low)
      (λ _. cond_case NarrowStep (eqb (shifted 4 r.shift bit) 0b1011) (λ _. tt) (λ _. low)))
  phase_narrow Field3 t = cond_case NarrowStep (ltb r.count 3) (λ _. tt) (λ _. tt)
  phase_narrow Field4 t =
      let low = ltb→lt r.command 16 (and_right (nibble_fits r) _ t) in
      cond_case NarrowStep (ltb r.count 3) (λ _. tt)
      (λ _. cond_case NarrowStep (ltb 0 (length_of r.command cnt)) (λ _. tt)
      (λ _. cond_case NarrowStep (is_frame r.command) (λ _. low)
      (λ _. cond_case Narrow (is_slow r.command) (λ _. shifted_fits 4 r.shift bit) (λ _. low))))
  phase_narrow Field5 t =
      let low = field5_low r.command (and_left (has_field5 r.command) _ t) in
      let at = ltb→lt r.address 16 (and_left (ltb r.address 16) _ (and_right (has_field5 r.command) _ t)) in
      cond_case NarrowStep (is_frame r.command)
      (λ _. cond_case NarrowStep (ends_of r cnt) (λ _. low) (λ _. tt))
      (λ _. cond_case NarrowStep (ends_of r cnt) (λ _. cond_case Narrow (is_slow r.command) (λ _. at) (λ _. low)) (λ _. tt))

  step_narrow : T (fit_of r cnt) → NarrowStep (step_of r bit cnt)
  unfolding step_of fit_of
  step_narrow t = phase_narrow r.phase t

fit_append : (ws vs : List ℕ) → WordsFit ws → WordsFit vs → WordsFit (ws ++ vs)
fit_append [] vs f g = g
fit_append (head ∷ []) vs f g = absurd f
fit_append (head ∷ value ∷ ws) vs f g = (f.0, f.1, fit_append ws vs f.2 g)

-- What holds of the bits taken from a state.
record BitsFit (s : System) (bits : List ℕ) : Type 0 where
  words : WordsFit (words_after turn_of s bits)
  model : ModelFits (state_after turn_of s bits).machine.model

none_fit : (s : System) → ModelFits s.machine.model → BitsFit s []
none_fit s f = record { words = tt; model = f }

bits_fit : (input : List ℕ) (n count first : ℕ) (s : System) → T (sound_of (decoder_of s)) → ModelFits s.machine.model
    → s.machine.next + count ≤ clock_limit → BitsFit s (take n (bits_of input first count))
unfolding turn_of
bits_fit input zero count first s t f h = none_fit s f
bits_fit input (suc n) zero first s t f h = none_fit s f
bits_fit input (suc n) (suc count) first s t f h =
    let bit = bit_of input first in
    let m = s.machine in
    let later = take n (bits_of input (first + 1) count) in
    let q = (transition_of s bit).event.request in
    let narrow = step_narrow s.recogniser bit _ (sound_parts (decoder_of s) t).fits in
    let rest =
    bits_fit input n count (first + 1) (turn_of s bit).state (turn_sound s bit (omega arith) t (omega arith))
    (model_fits m.plan m.model q m.next m.store f) (omega arith) in
    record {
      words = fit_append (words_of (turn_of s bit).cycle) (words_after turn_of (turn_of s bit).state later)
          (flagged_words_fit m.earlier (cnt_at m) m.next (omega arith) (effect_at m q m.next).acted.cycle (stamp s bit)
          (cycle_fits m.plan m.model f m.next m.store q narrow)) rest.words;
      model = rest.model;
    }

-- So it is for a call, refused or not, and for a list of calls.
module _ (d : Decoder) (c : Call) (t : T (sound_of d)) (f : ModelFits d.model) where
  call_fits : BitsFit (lent d c) (bits_taken d c)
  unfolding take_of taken_of
  call_fits =
      let P : CallResult → Type 0 = λ l. BitsFit (lent d c) (take l.taken.report.bits (offered c)) in
      let none = none_fit (lent d c) f in
      choice P (not (sound_of d)) (λ _. none)
      (λ _. choice P (not (buffers_fit (length c.store) (length c.tray) (length c.list) c.free)) (λ _. none)
      (λ _. choice P (not (range_fits (length c.input) c.first c.count)) (λ _. none)
      (λ _. choice P (not (clock_fits d.next c.count)) (λ _. none)
      (λ e. bits_fit c.input (taken_of d c).taken.report.bits c.count c.first (lent d c) t f (leb-true _ _ (not-false _ e))))))

  standing_fit : WordsFit (words_standing d c)
  standing_fit = rw (call_kept d c).words call_fits.words

  left_fits : ModelFits (take_of d c).taken.decoder.model
  left_fits = subst (λ (u : System). ModelFits u.machine.model) (sym (call_kept d c).system) call_fits.model

pub words_fit : (cs : List Call) (d : Decoder) → T (sound_of d) → ModelFits d.model → WordsFit (all_words d cs)
unfolding all_words
words_fit [] d t f = tt
words_fit (c ∷ cs) d t f =
    let next : Decoder = (take_of d c).taken.decoder in
    fit_append (words_standing d c) (all_words next cs) (standing_fit d c t f) (words_fit cs next (take_sound d c t) (left_fits d c t f))
