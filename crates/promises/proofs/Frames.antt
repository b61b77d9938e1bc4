-- The second demand's frames, proved.
-- Assumes nothing.
use mathlib.Core.Path.{◌≡◌, ◌∙◌, refl, sym, ap, subst}
use mathlib.Core.Bool.{Bool, true, false, ◌&&◌}
use mathlib.Core.List.{List, [], ◌∷◌, ◌++◌}
use Prim.Native.Nat.{ℕ, ◌+◌, ◌*◌, ◌/◌, ◌^◌, ◌<◌, ◌≤◌}
use native.Mathlib.Nat.{zero-add}
use native.Mathlib.Omega.{arith}
use lib.Dec.{eqb, leb, T}
use lib.ListN.{length, length-append, take, replicate}
use borrow.Author.Tests.{eqb-true, eqb-false, leb-true, lt-leb, le-leb, ne_eqb}
use Rattle.limits.specs.Limits.{store_length, tray_length}
use Rattle.bits.proofs.Truth.{both, cond_most, choice}
use Rattle.bits.proofs.Below.{below_at}
use Rattle.bits.proofs.BitRanges.{binary, binary_behind}
use Rattle.groups.specs.Vote.{vote_of}
use Rattle.groups.proofs.GroupLists.{votes_binary, votes_length}
use Rattle.recogniser.specs.declared.Phase.TheVariants.{Field5}
use Rattle.recogniser.specs.declared.Recogniser.{Recogniser}
use Rattle.recogniser.specs.Parts.{start_of}
use Rattle.slow_fields.specs.Slow.{is_frame, length_of, data_bits, control_bits}
use Rattle.frames.specs.Tray.{part_of, PartHolds, filled_of}
use Rattle.frames.proofs.FrameFill.{part_holds}
use Rattle.decoder.specs.Sound.{sound_of}
use Rattle.records.specs.Records.{head_of, kind_of, kind_slow, flag_unsteady, frame_bits_of}
use Rattle.controller.specs.Commands.{frame_value_of}
use Rattle.controller.specs.Widths.{ModelFits}
use Rattle.timing.specs.TooClose.{too_close, flag_too_close}
use Rattle.calls.specs.Run.{state_after, words_after}
use Rattle.calls.specs.Turn.{System, decoder_of, cnt_at, turn_of}
use Rattle.calls.specs.Take.{CallResult, offered}
use Rattle.calls.specs.Calls.{Part, call_of, result_of, system_after, carried_bits, carried_words, carried_system}
use Rattle.calls.proofs.RunFaithful.{state_append, words_append}
use Rattle.calls.proofs.Refusals.{unsound, wrong_buffers}
use Rattle.calls.proofs.Refusals as refusals
use Rattle.calls.proofs.CallLists.{carried_words_lem, carried_system_lem}
use Rattle.calls.proofs.BitCalls.{carried_binary}
use Rattle.calls.proofs.TurnsKept.{Kept, kept}
use Rattle.calls.proofs.FrameTurns.{FrameTaken, frame_record, receiver_taken}
use Rattle.calls.proofs.FrontEndTurns.{front_end_taken}
use Rattle.promises.specs.Frames.{cycles_each, frame_bits_in, unsteady_in, count_of, handed_back, Receives, HandsBack, Frames, SteadyVote, EmptyFrame}

-- The count of a frame's bits, off its record, against the cycles of Field 5.
abbrev counted : ℕ → ℕ → ℕ
counted command cnt = frame_bits_of (kind_slow command) (frame_value_of command cnt)

record Counted (command cnt : ℕ) : Type 0 where
  cycles : counted command cnt * cycles_each command ≡ length_of command cnt
  low : counted command cnt ≤ 8 * tray_length

counted_by : (command cnt : ℕ) → is_frame command ≡ true → cnt < 2 ^ 16 → (one : Bool) → eqb command 6 ≡ one → Counted command cnt
counted_by command cnt frame narrow true e =
    let six = eqb-true command 6 e in
    record { cycles = rw six (omega arith); low = rw six (omega arith) }
counted_by command cnt frame narrow false e =
    let p = both (leb 4 command) (leb command 6) frame in
    let l = leb-true 4 command p.0 in
    let h = leb-true command 6 p.1 in
    let n : command ≡ 6 → ⊥ = eqb-false command 6 e in
    let long : length_of command cnt ≡ data_bits cnt * 8 + control_bits cnt * 8 =
    simp (lt-leb command 1 (omega arith), lt-leb command 3 (omega arith), le-leb command 5 (omega arith)) in
    let other : eqb (kind_slow command) 0x26 ≡ false = ne_eqb (kind_slow command) 0x26 (omega arith) in
    let sum : counted command cnt * 8 ≡ data_bits cnt * 8 + control_bits cnt * 8 = rw (e, other) (omega arith) in
    record { cycles = rw (long, e, other) (omega arith); low = omega arith }

-- A frame's bits, as many as the count.
record FrameFits (command count : ℕ) (field : List ℕ) : Type 0 where
  long : length (frame_bits_in command field) ≡ count
  bits : T (binary (frame_bits_in command field))

frame_fits : (command count : ℕ) (field : List ℕ) → count * cycles_each command ≡ length field → T (binary field) → (one : Bool) → eqb command 6 ≡ one
    → FrameFits command count field
frame_fits command count field whole b true e =
    let all : count * 1 ≡ length field = rw e at whole in
    record { long = rw e (omega arith); bits = rw e b }
frame_fits command count field whole b false e =
    let all : count * 8 ≡ length field = rw e at whole in
    let groups : length field / 8 ≡ count = omega arith in
    record { long = rw e (votes_length _ _ ∙ groups); bits = rw e (votes_binary (length field / 8) field b) }

-- Where a list of calls takes bits, some call is not refused: so the tray has its length.
abbrev pub Long : System → List ℕ → Type 0
Long s bits = 0 < length bits → length s.machine.tray ≡ tray_length

abbrev taking : System → Part → List Part → CallResult → List ℕ
taking s p ps l = take l.taken.report.bits (offered (call_of s p)) ++ carried_bits (system_after l) ps

module _ (s : System) (p : Part) (ps : List Part) (later : Long s (carried_bits s ps)) where
  part_long : (sound buffers : Bool) → sound_of (decoder_of s) ≡ sound → refusals.buffers (call_of s p) ≡ buffers → Long s (taking s p ps (result_of s p))
  part_long false buffers e f = subst (λ (l : CallResult). Long s (taking s p ps l)) (sym (unsound (decoder_of s) (call_of s p) e)) later
  part_long true false e f = subst (λ (l : CallResult). Long s (taking s p ps l)) (sym (wrong_buffers (decoder_of s) (call_of s p) e f)) later
  part_long true true e f = λ _.
      let tray = eqb (length s.machine.tray) tray_length in
      let rest = (both (eqb (length s.machine.store) store_length) (tray && leb p.free (length p.list)) f).1 in
      eqb-true _ _ (both tray (leb p.free (length p.list)) rest).0

pub tray_fits : (ps : List Part) (s : System) → Long s (carried_bits s ps)
unfolding carried_bits
tray_fits [] s = λ some. absurd (omega arith)
tray_fits (p ∷ ps) s = part_long s p ps (tray_fits ps s) (sound_of (decoder_of s)) (refusals.buffers (call_of s p)) refl refl

module _ (s : System) (ps : List Part) (command address : ℕ) (before field : List ℕ) (widths : ModelFits s.machine.model)
    (r : Receives s (carried_bits s ps) command address before field) where
  -- where Field 5 begins
  abbrev here : System
  here = state_after turn_of s before

  ahead : Kept s before
  ahead = kept before s

  counts : Counted command (cnt_at here.machine)
  counts = counted_by command (cnt_at here.machine) r.frame ((ahead.model widths).each_register _) (eqb command 6) refl

  bits_are : T (binary field)
  bits_are = binary_behind before field (subst (λ bits. T (binary bits)) r.took (carried_binary s ps))

  fits : FrameFits command (counted command (cnt_at here.machine)) field
  fits = frame_fits command _ field (counts.cycles ∙ sym r.whole) bits_are (eqb command 6) refl

  abbrev Taken : List ℕ → Recogniser → Type 0
  Taken bits q = FrameTaken command 0 (frame_bits_in command bits) (unsteady_in command bits) bits (record { recogniser = q; machine = here.machine })

  taken_from : (bits : List ℕ) → 0 < length bits → length bits ≡ length_of command (cnt_at here.machine) → T (binary bits)
      → (one : Bool) → eqb command 6 ≡ one → Taken bits (start_of Field5 0 command address)
  taken_from [] some whole b one e = absurd (omega arith)
  taken_from (bit ∷ bits) some whole b true e =
      let six = eqb-true command 6 e in
      rw six (receiver_taken address bits bit 0 0 false here.machine (zero-add _ ∙ rw six at whole))
  taken_from (bit ∷ bits) some whole b false e =
      let eight : cycles_each command ≡ 8 = rw e in
      let groups : counted command (cnt_at here.machine) * 8 ≡ length (bit ∷ bits) =
      ap (λ k. counted command (cnt_at here.machine) * k) (sym eight) ∙ counts.cycles ∙ sym whole in
      rw e
      (front_end_taken command address r.frame e bits bit [] 0 (length (bit ∷ bits) / 8) false here.machine
      (omega arith) (omega arith) b (omega arith))

  taken : Taken field here.recogniser
  taken = subst (Taken field) (sym r.begins) (taken_from field r.some r.whole bits_are (eqb command 6) refl)

  abbrev head : ℕ
  head = head_of (frame_record here.machine.earlier taken.time command (unsteady_in command field) (cnt_at here.machine))

  abbrev value : ℕ
  value = frame_value_of command (cnt_at here.machine)

  abbrev tray : List ℕ
  tray = (carried_system s ps).machine.tray

  low : command < 7
  low = omega (arith, leb-true command 6 (both (leb 4 command) (leb command 6) r.frame).1)

  unsteady_low : flag_unsteady (unsteady_in command field) ≤ 16
  unsteady_low = cond_most (unsteady_in command field) (omega arith) (omega arith)

  abbrev close : Bool
  close = too_close here.machine.earlier taken.time (kind_slow command) (cnt_at here.machine)

  close_low : flag_too_close close ≤ 32
  close_low = cond_most close (omega arith) (omega arith)

  time_is : head / 65536 ≡ taken.time
  time_is = omega (arith, low, unsteady_low, close_low)

  kind_is : kind_of head ≡ kind_slow command
  kind_is = omega (arith, low, unsteady_low, close_low)

  count_is : count_of head value ≡ length (frame_bits_in command field)
  count_is = ap (λ k. frame_bits_of k value) kind_is ∙ sym fits.long

  tray_is : tray ≡ filled_of 0 here.machine.tray (frame_bits_in command field)
  tray_is =
      ap (λ (u : System). u.machine.tray) (carried_system_lem s ps ∙ ap (state_after turn_of s) r.took ∙ state_append turn_of s before field)
      ∙ ap (λ (u : System). u.machine.tray) taken.left

  part_is : handed_back tray head value ≡ part_of (filled_of 0 here.machine.tray (frame_bits_in command field)) (length (frame_bits_in command field))
  part_is = λ i. part_of (tray_is i) (count_is i)

  long : length here.machine.tray ≡ tray_length
  long =
      let some = r.some in
      let all : length (carried_bits s ps) ≡ length before + length field = ap length r.took ∙ length-append before field in
      ahead.tray ∙ tray_fits ps s (omega arith)

  holds : PartHolds (frame_bits_in command field) (handed_back tray head value)
  holds =
      subst (PartHolds (frame_bits_in command field)) (sym part_is)
      (part_holds (frame_bits_in command field) here.machine.tray fits.bits (rw (long, fits.long) counts.low))

  hands_back : HandsBack s (carried_words s ps) tray command before field
  hands_back = record {
    head = head;
    value = value;
    written = carried_words_lem s ps ∙ ap (words_after turn_of s) r.took ∙ words_append turn_of s before field
        ∙ ap (λ words. words_after turn_of s before ++ words) taken.words;
    kind = kind_is;
    flags = rw (time_is, kind_is) (omega (arith, unsteady_low, close_low));
    time = omega (arith, time_is, taken.last_bit, ahead.next);
    count = rw kind_is (counts.cycles ∙ sym r.whole);
    bytes = holds.long ∙ ap (λ n. (n + 7) / 8) (sym count_is);
    bits = holds.bits;
  }

pub frames : Frames
frames = hands_back

pub steady_vote : SteadyVote
steady_vote = below_at 2 (λ bit. vote_of (replicate 8 bit)) (λ bit. bit) refl

pub empty_frame : EmptyFrame
empty_frame lent = choice (λ l. l ≡ []) (leb 0 (8 * length lent)) (λ _. refl) (λ _. refl)
