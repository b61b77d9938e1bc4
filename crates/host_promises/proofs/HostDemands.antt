-- The demands for lists of the library's calls, proved: of a state's image, and of any words.
-- Assumes nothing.
use mathlib.Core.Path.{◌≡◌, ◌∙◌, refl, sym, ap, ap₂, subst}
use mathlib.Core.Bool.{Bool, true, false, not}
use mathlib.Core.List.{List, [], ◌∷◌, ◌++◌}
use Prim.Native.Nat.{ℕ, ◌+◌, ◌*◌}
use native.Mathlib.Omega.{arith}
use lib.Dec.{eqb}
use lib.ListN.{length, length-append, replicate, take, drop}
use borrow.Author.Tests.{eq-eqb}
use Rattle.bits.proofs.Truth.{both, holds_true, true_holds}
use Rattle.limits.specs.Limits.{list_unit}
use Rattle.controller.specs.Widths.{WordsFit}
use Rattle.decoder.specs.declared.Decoder.{Decoder}
use Rattle.decoder.specs.Sound.{sound_of}
use Rattle.calls.specs.Run.{state_after, words_after}
use Rattle.calls.specs.Turn.{System, system_of, decoder_of, turn_of}
use Rattle.calls.specs.Take.{Call, CallResult, take_of, ending_number}
use Rattle.calls.specs.Calls.{all_words, carried_system}
use Rattle.calls.proofs.Refusals.{unsound}
use Rattle.calls.proofs.CallLists.{carried_words_lem, carried_system_lem}
use Rattle.calls.proofs.SoundnessKept.{take_sound}
use Rattle.image_fields.specs.Image.{state_of, image_fits, Widths}
use Rattle.image_fields.proofs.RoundTrip.{image_fits_lem, read_back}
use Rattle.image_fields.proofs.WellFormed.{read_again, read_widths}
use Rattle.host_opening.specs.Holding.{sound_image}
use Rattle.host_results.specs.Take.{TakeResult, result_length, answered, take_result_of}
use Rattle.kernelstill.proofs.WidthsKept.{model_widths, widths_kept}
use Rattle.clean_streams.specs.CleanStreams.{Item, stream_bits}
use Rattle.damage.specs.Hits.{HitCycles}
use Rattle.damage.proofs.StreamBits.{item_some, stream_length}
use Rattle.damage.proofs.OneHit.{one_hit, one_apart}
use Rattle.promises.specs.Refusals.{Row, row, first_of, taking_rows}
use Rattle.promises.specs.Frames.{Receives, HandsBack}
use Rattle.promises.specs.ManyHits.{Made, made, HitRuns, HitsWrote}
use Rattle.host_promises.specs.HostCalls.{HostCall, left, image_words, host_made, Carried, HostPart, host_bits, host_words, host_left, stands_for}
use Rattle.host_promises.specs.HostCalls.{HostExact, HostEnds, HostCuts, HostDamage, HostDamageMet, HostHits, HostHitsMet, HostDemands}
use Rattle.promises.proofs.Refusals.{first_demand}
use Rattle.promises.proofs.Records.{second_demand}
use Rattle.promises.proofs.ManyHits.{fourth_promise, fourth_promise_met}
use Rattle.promises.proofs.Damage.{one_runs, runs_one, one_wrote}
use Rattle.host_promises.proofs.HostCalls.{state_calls, state_parts, imaged, same_made, same_carried, nothing_made, nothing}

-- What is carried over of a state stands for it; and words that are an image are that of the state that they stand for.
stands : (s : System) → Widths (decoder_of s) → stands_for (imaged s) ≡ s
stands s w = ap (λ (d : Decoder). system_of d s.machine.store s.machine.tray) (read_back (decoder_of s) w)

formed : (P : Carried → Type 0) (k : Carried) → image_fits k.image ≡ true → P (imaged (stands_for k)) → P k
formed P k e p = subst (λ i. P (record { image = i; store = k.store; tray = k.tray })) (read_again k.image e) p

-- What a list of calls leaves and writes.
state_exact : (s : System) → Widths (decoder_of s) → (ps : List HostPart) → HostExact (imaged s) ps
state_exact s w ps =
    let c = same_carried ps s w in
    let is = stands s w in
    record {
      state = ap stands_for c.left_over ∙ stands (carried_system s (state_parts ps)) c.widths ∙ carried_system_lem s (state_parts ps)
          ∙ ap₂ (state_after turn_of) (sym is) (sym c.bits);
      words = c.words ∙ carried_words_lem s (state_parts ps) ∙ ap₂ (words_after turn_of) (sym is) (sym c.bits);
    }

exact_by : (k : Carried) (ps : List HostPart) (fit : Bool) → image_fits k.image ≡ fit → HostExact k ps
exact_by k ps true e = formed (λ k. HostExact k ps) k e (state_exact (stands_for k) (read_widths k.image) ps)
exact_by k ps false e =
    let n = nothing k e ps in
    record {
      state = ap stands_for n.left_over ∙ ap (state_after turn_of (stands_for k)) (sym n.bits);
      words = n.words ∙ ap (words_after turn_of (stands_for k)) (sym n.bits);
    }

-- The cuts.
state_cuts : (s : System) → Widths (decoder_of s) → HostCuts (imaged s)
state_cuts s w ps qs e =
    let p = same_carried ps s w in
    let q = same_carried qs s w in
    let same = second_demand.cuts s (state_parts ps) (state_parts qs) (sym p.bits ∙ e ∙ q.bits) in
    (p.words ∙ same.0 ∙ sym q.words, p.left_over ∙ ap imaged same.1 ∙ sym q.left_over)

cuts_by : (k : Carried) (fit : Bool) → image_fits k.image ≡ fit → HostCuts k
cuts_by k true e = formed HostCuts k e (state_cuts (stands_for k) (read_widths k.image))
cuts_by k false e = λ ps qs _.
    let p = nothing k e ps in
    let q = nothing k e qs in
    (p.words ∙ sym q.words, p.left_over ∙ sym q.left_over)

-- The frames.
module _ (ps : List HostPart) (command address : ℕ) (before field : List ℕ) where
  abbrev Handed : System → Carried → Type 0
  Handed s k =
      Receives s (host_bits k ps) command address before field → HandsBack s (host_words k ps) (host_left k ps).tray command before field

  state_frames : (s : System) → Widths (decoder_of s) → Handed s (imaged s)
  state_frames s w r =
      let c = same_carried ps s w in
      let tray : (host_left (imaged s) ps).tray ≡ (carried_system s (state_parts ps)).machine.tray = ap (λ (k : Carried). k.tray) c.left_over in
      let back =
      second_demand.frames s (state_parts ps) command address before field (model_widths (decoder_of s) w)
      (record { frame = r.frame; took = sym c.bits ∙ r.took; begins = r.begins; some = r.some; whole = r.whole }) in
      subst (λ t. HandsBack s (host_words (imaged s) ps) t command before field) (sym tray)
      (subst (λ words. HandsBack s words (carried_system s (state_parts ps)).machine.tray command before field) (sym c.words) back)

  frames_by : (k : Carried) (fit : Bool) → image_fits k.image ≡ fit → Handed (stands_for k) k
  frames_by k true e = formed (Handed (stands_for k)) k e (state_frames (stands_for k) (read_widths k.image))
  frames_by k false e = λ r.
      let none : 0 ≡ length before + length field = ap length (sym (nothing k e ps).bits ∙ r.took) ∙ length-append before field in
      absurd (omega (arith, none, r.some))

-- What follows an answer of 0; and a state that is sound is turned away with another number, if at all.
abbrev Sound : TakeResult → Type 0
Sound r = r.number ≡ 0 → sound_image r.image ≡ true

other_rows : (a b c : Bool) → first_of (row 4 a ∷ row 5 b ∷ row 6 c ∷ []) ≡ 3 → ⊥
other_rows true b c z = omega arith
other_rows false true c z = omega arith
other_rows false false true z = omega arith
other_rows false false false z = omega arith

other_number : (s a b c : Bool) (rows : List Row) → rows ≡ row 3 (not s) ∷ row 4 a ∷ row 5 b ∷ row 6 c ∷ [] → s ≡ true → first_of rows ≡ 3 → ⊥
other_number s a b c rows is e z = other_rows a b c (sym (ap first_of is ∙ ap (λ s. first_of (row 3 (not s) ∷ row 4 a ∷ row 5 b ∷ row 6 c ∷ [])) e) ∙ z)

-- A call on a sound image is the call on its state.
module _ (image : List ℕ) (h : HostCall) where
  abbrev on : CallResult
  on = take_of (state_of image) h.lent

  turned : sound_image image ≡ false → (left image h).number ≡ 3
  unfolding take_result_of
  turned e = rw e

  wrong_result : sound_image image ≡ true → eqb (length h.result) result_length ≡ false → (left image h).number ≡ 4
  unfolding take_result_of
  wrong_result e f = rw (e, f)

  whole : sound_image image ≡ true → eqb (length h.result) result_length ≡ true → left image h ≡ answered image h.result on
  unfolding take_result_of
  whole e f = rw (e, f)

  -- the image that it leaves is sound
  written : sound_image image ≡ true → Sound (answered image h.result on)
  written e zero =
      let d = on.taken.decoder in
      let w = widths_kept (state_of image) h.lent (read_widths image) in
      let before = true_holds (sound_of (state_of image)) (both (image_fits image) (sound_of (state_of image)) e).1 in
      rw (eq-eqb (ending_number on.taken.report.ending) 0 zero, image_fits_lem d w, read_back d w)
      (holds_true (sound_of d) (take_sound (state_of image) h.lent before))

  sound_by : (sound fit : Bool) → sound_image image ≡ sound → eqb (length h.result) result_length ≡ fit → Sound (left image h)
  sound_by false fit e f = λ zero. let three = turned e in absurd (omega arith)
  sound_by true false e f = λ zero. let four = wrong_result e f in absurd (omega arith)
  sound_by true true e f = subst Sound (sym (whole e f)) (written e)

  -- and a call on a sound one does not answer 3
  accepted : sound_image image ≡ true → (fit : Bool) → eqb (length h.result) result_length ≡ fit → (left image h).number ≡ 3 → ⊥
  accepted e false f three = let four = wrong_result e f in omega arith
  accepted e true f three =
      other_number (sound_of (state_of image)) _ _ _ (taking_rows (state_of image) h.lent) refl (both (image_fits image) (sound_of (state_of image)) e).1
      (sym (first_demand.takes (state_of image) h.lent).number ∙ ap (λ (r : TakeResult). r.number) (sym (whole e f)) ∙ three)

-- The widths of what is written.
unsound_words : (cs : List Call) (d : Decoder) → sound_of d ≡ false → all_words d cs ≡ []
unfolding all_words
unsound_words [] d e = refl
unsound_words (c ∷ cs) d e =
    ap (λ (l : CallResult). take (list_unit * l.taken.report.records) (drop c.free l.list) ++ all_words l.taken.decoder cs) (unsound d c e)
    ∙ unsound_words cs d e

calls_fit : (d : Decoder) → Widths d → (cs : List Call) (sound : Bool) → sound_of d ≡ sound → WordsFit (all_words d cs)
calls_fit d w cs true e = second_demand.fits d cs (true_holds (sound_of d) e) (model_widths d w)
calls_fit d w cs false e = rw (unsound_words cs d e) tt

fits_by : (image : List ℕ) (hs : List HostCall) (fit : Bool) → image_fits image ≡ fit → WordsFit (image_words image hs)
fits_by image hs true e =
    let d = state_of image in
    let w = read_widths image in
    let same = ap (λ (m : Made). m.words) (same_made hs d w) in
    subst (λ i. WordsFit (image_words i hs)) (read_again image e) (rw same (calls_fit d w (state_calls hs) (sound_of d) refl))
fits_by image hs false e = let none = ap (λ (m : Made). m.words) (nothing_made image e hs) in rw none tt

-- The damage statement, for any number of inverted bits and for one.
empty_stream : (items : List Item) (trailing : ℕ) → 0 ≡ length (stream_bits items trailing) → items ≡ []
empty_stream [] trailing e = refl
empty_stream (i ∷ is) trailing e = let size = stream_length i is trailing in let some = item_some i in absurd (omega arith)

module _ (image : List ℕ) (clean damaged : List HostCall) (hits : HitCycles) (items : List Item) (trailing : ℕ) where
  abbrev Damage : Made → Made → Type 0
  Damage c m = HitRuns (state_of image) c m hits items trailing → HitsWrote (state_of image) c m hits items

  abbrev unmade : Made
  unmade = record { bits = []; words = []; state = state_of image }

  -- a list of calls that takes nothing
  no_damage : Damage unmade unmade
  no_damage r =
      rw (empty_stream items trailing (ap length r.took_clean))
      (record {
        clean_words = refl;
        clean_left = refl;
        only_first = tt;
        damaged_words = refl;
        damaged_left = refl;
        beside = (((λ _. refl), (λ _. refl)), refl, refl);
        counters = ((λ _. refl), (λ _. refl));
      })

  hits_by : (fit : Bool) → image_fits image ≡ fit → Damage (host_made image clean) (host_made image damaged)
  hits_by true e =
      let d = state_of image in
      let w = read_widths image in
      subst (λ i. Damage (host_made i clean) (host_made i damaged)) (read_again image e)
      (rw (same_made clean d w, same_made damaged d w) (fourth_promise d (state_calls clean) (state_calls damaged) hits items trailing))
  hits_by false e = rw (nothing_made image e clean, nothing_made image e damaged) no_damage

host_hits : HostHits
host_hits image clean damaged hits items trailing = hits_by image clean damaged hits items trailing (image_fits image) refl

host_damage : HostDamage
host_damage image clean damaged items trailing k r =
    let d = state_of image in
    let runs = one_runs d (host_made image clean) (host_made image damaged) items trailing k r in
    one_wrote d (host_made image clean) (host_made image damaged) items trailing k r
    (host_hits image clean damaged (one_hit (d.next + k)) items trailing runs)

-- Each taking call as a call on an image.
abbrev host_calls : List Call → List HostCall
host_calls [] = []
host_calls (c ∷ cs) = record { result = replicate result_length 0; lent = c } ∷ host_calls cs

calls_back : (cs : List Call) → state_calls (host_calls cs) ≡ cs
calls_back [] = refl
calls_back (c ∷ cs) = ap (λ cs. c ∷ cs) (calls_back cs)

hits_met : HostHitsMet
hits_met image hits items trailing fits s apart room =
    let d = state_of image in
    let m = fourth_promise_met d hits items trailing s apart room in
    let as_made : (cs : List Call) → host_made image (host_calls cs) ≡ made d cs =
    λ cs. ap (λ i. host_made i (host_calls cs)) (sym (read_again image fits)) ∙ same_made (host_calls cs) d (read_widths image) ∙ ap (made d) (calls_back cs) in
    record { clean = host_calls m.clean; damaged = host_calls m.damaged; runs = rw (as_made m.clean, as_made m.damaged) m.runs }

met : HostDamageMet
met image items trailing k fits s inside room =
    let d = state_of image in
    let m = hits_met image (one_hit (d.next + k)) items trailing fits s (one_apart (d.next + k) d.next items trailing) room in
    let runs = runs_one d (host_made image m.clean) (host_made image m.damaged) items trailing k inside m.runs in
    record { clean = m.clean; damaged = m.damaged; runs = runs }

-- the ending, by the tests of the call on an image
ends_by : (image : List ℕ) (h : HostCall) (s t : Bool) → sound_image image ≡ s → eqb (length h.result) result_length ≡ t
    → (left image h).number ≡ 0 → HostEnds image h
unfolding take_result_of
ends_by image h false t e f zero = let z : ◌≡◌ {A = ℕ} 3 0 = rw e at zero in absurd (omega arith)
ends_by image h true false e f zero = let z : ◌≡◌ {A = ℕ} 4 0 = rw (e, f) at zero in absurd (omega arith)
ends_by image h true true e f zero =
    let d = state_of image in
    let takes = first_demand.takes d h.lent in
    let none : ending_number (take_of d h.lent).taken.report.ending ≡ 0 = rw (e, f) at zero in
    let through = takes.through (sym takes.number ∙ none) in
    record { result = rw (e, f, none, through); ends = second_demand.ends d h.lent }

pub host_demands : HostDemands
host_demands = record {
  exact = λ k ps. exact_by k ps (image_fits k.image) refl;
  ends = λ image h. ends_by image h (sound_image image) (eqb (length h.result) result_length) refl refl;
  cuts = λ k. cuts_by k (image_fits k.image) refl;
  frames = λ k ps command address before field. frames_by ps command address before field k (image_fits k.image) refl;
  sound = λ image h after zero.
      let sound = sound_by image h (sound_image image) (eqb (length h.result) result_length) refl refl zero in
      accepted (left image h).image after sound (eqb (length after.result) result_length) refl;
  fits = λ image hs. fits_by image hs (image_fits image) refl;
  damage = host_damage;
  met = met;
  hits = host_hits;
  hits_met = hits_met;
}
