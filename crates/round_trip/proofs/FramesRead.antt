-- The Slow commands that carry a frame, read back.
-- Assumes nothing.
use mathlib.Core.Bool.{true, false}
use mathlib.Core.List.{List, [], ◌∷◌, ◌++◌}
use mathlib.Core.Logic.{⊎_elim}
use mathlib.Core.Path.{◌≡◌, ◌∙◌, refl, sym, ap, subst}
use Prim.Native.Nat.{ℕ, ◌+◌, ◌*◌, ◌^◌, ◌<◌}
use native.Mathlib.Nat.{zero-mul, eq-zero-or-pos}
use native.Mathlib.Omega.{arith}
use lib.Dec.{eqb, leb, lit<}
use lib.ListN.{length}
use borrow.Author.Tests.{eqb-true, lt-ltb, le-ltb}
use Rattle.bits.specs.Bits.{bits_of}
use Rattle.bits.proofs.Truth.{both}
use Rattle.slow_fields.specs.Slow.{is_frame, length_of, data_bits, control_bits, receiver_bits}
use Rattle.recogniser.specs.declared.Phase.TheVariants.{Field5}
use Rattle.recogniser.specs.declared.Request.TheVariants.{Slow}
use Rattle.recogniser.specs.declared.SlowRequest.TheVariants.{Frame}
use Rattle.recogniser.specs.Parts.{start_of, idle}
use Rattle.frames.specs.Tray.{filled_of}
use Rattle.records.specs.Records.{frame_bits_of}
use Rattle.registers.specs.Parts.{with_running}
use Rattle.registers.specs.Registers.{cnt_of}
use Rattle.controller.specs.Commands.{slow_record, frame_value_of, act_of}
use Rattle.timing.specs.TooClose.{cycles_back}
use Rattle.calls.specs.Run.{state_after, words_after}
use Rattle.calls.specs.Turn.{System, Machine, cnt_at, turn_of}
use Rattle.calls.proofs.FrameTurns.{FrameTaken, frame_record, framed, system}
use Rattle.orders.specs.Fields.{Ordered, order, order_fits}
use Rattle.orders.specs.Streams.{repeated, frame_of, command_bits}
use Rattle.orders.specs.Composing.{cnt_after}
use Rattle.orders.proofs.StreamBits.{repeated_length, frame_binary, frame_length}
use Rattle.round_trip.proofs.Cycles.{Asks, state_behind, words_behind}
use Rattle.round_trip.proofs.Heads.{stopped, slow_head, head_begins, head_frames}
use Rattle.round_trip.proofs.FrameFields.{front_end_field, receiver_field}
use Rattle.round_trip.proofs.SlowsRead.{Stands}
use Rattle.round_trip.proofs.CommandRead.{Tells, CommandRead, ReadsAs, tray_behind, ordered_as, asked_read}

-- A frame's order, by its command. What is asked of an order of its kind computes.
module _ (m : Machine) (x : Ordered) (command : ℕ) (known : command < 16) (carries : is_frame command ≡ true)
    (same : cnt_at m ≡ cnt_after m.plan (cnt_at m) x.order)
    (tells : (time : ℕ) → Tells x.order (slow_record time command 0x01 (frame_value_of command (cnt_at m))))
    (back : 16 + length_of command (cnt_at m) ≡ cycles_back x.order.kind (cnt_at m))
    (tray : filled_of 0 m.tray (frame_of x) ≡ tray_behind m.tray x) where
  -- CNT asks for no bits: the record comes with Field 4.
  empty_read : command_bits x ≡ slow_head command 0 → length_of command (cnt_at m) ≡ 0 → frame_of x ≡ [] → CommandRead m x
  unfolding act_of
  empty_read bits none empty =
      let time = m.next + 16 in
      asked_read m x (with_running false m.model) (Slow (Frame command false)) time (slow_record time command 0x01 (frame_value_of command (cnt_at m)))
      (subst (λ (l : List ℕ). Asks (system idle m) l (stopped 16 m) (Slow (Frame command false))) (sym bits)
      (head_frames command 0 known (lit< tt) m (le-ltb 0 (length_of command (cnt_at m)) (omega arith)) carries)) refl
      (record { recorded = refl; at_time = refl; tells = tells time; cnt = same })
      (rw bits (omega arith)) (rw bits (omega (arith, back))) (ap (filled_of 0 m.tray) (sym empty) ∙ tray)

  -- Else it comes with Field 5.
  taken_read : (field : List ℕ) → command_bits x ≡ slow_head command 0 ++ field → length field ≡ length_of command (cnt_at m)
      → 0 < length_of command (cnt_at m) → FrameTaken command 0 (frame_of x) false field (system (start_of Field5 0 command 0) (stopped 17 m))
      → CommandRead m x
  taken_read field bits whole some f =
      let begins = head_begins command 0 known (lit< tt) m (lt-ltb 0 (length_of command (cnt_at m)) some) in
      let state : state_after turn_of (system idle m) (command_bits x)
      ≡ system idle
      (framed (stopped 17 m) (frame_record m.earlier f.time command false (cnt_at m)) (filled_of 0 m.tray (frame_of x))) =
      ap (state_after turn_of (system idle m)) bits ∙ state_behind begins field ∙ f.left in
      let last = f.last_bit in
      record {
        written = slow_record f.time command 0x01 (frame_value_of command (cnt_at m));
        words = ap (words_after turn_of (system idle m)) bits ∙ words_behind begins field ∙ f.words;
        tells = tells f.time;
        time = rw bits (omega arith);
        long = rw bits (omega (arith, back));
        recogniser = ap (λ (s : System). s.recogniser) state;
        earlier = ap (λ (s : System). s.machine.earlier) state;
        cnt = ap (λ (s : System). cnt_of m.plan s.machine.model) state ∙ same;
        tray = ap (λ (s : System). s.machine.tray) state ∙ tray;
      }

  -- Each bit so many times.
  frame_read : (times : ℕ) → command_bits x ≡ slow_head command 0 ++ repeated times (frame_of x) → length (frame_of x) * times ≡ length_of command (cnt_at m)
      → (0 < length (frame_of x) → 0 < length_of command (cnt_at m))
      → (0 < length (frame_of x) → FrameTaken command 0 (frame_of x) false (repeated times (frame_of x)) (system (start_of Field5 0 command 0) (stopped 17 m)))
      → CommandRead m x
  frame_read times bits whole some taken =
      let long = frame_length x in
      ⊎_elim
      (λ (none : x.order.bits ≡ 0).
      let empty : frame_of x ≡ [] = ap (bits_of x.lent 0) none in
      let no_field : 0 * times ≡ length_of command (cnt_at m) = ap (λ (l : List ℕ). length l * times) (sym empty) ∙ whole in
      empty_read (bits ∙ ap (λ (l : List ℕ). slow_head command 0 ++ repeated times l) empty) (sym no_field ∙ zero-mul times) empty)
      (λ (more : 0 < x.order.bits).
      let carried : 0 < length (frame_of x) = omega arith in
      taken_read (repeated times (frame_of x)) bits (repeated_length times (frame_of x) ∙ whole) (some carried) (taken carried))
      (eq-zero-or-pos x.order.bits)

-- WrFrontEnd and RdFrontEnd: "control bits × 65,536 + data bits".
module _ (m : Machine) (s : Stands m) where
  abbrev cnt : ℕ
  cnt = cnt_at m

  abbrev count : ℕ
  count = data_bits cnt + control_bits cnt

  narrow : cnt < 2 ^ 16
  narrow = s.widths.each_register m.plan.cnt

  shown : frame_bits_of 0x24 (control_bits cnt * 65536 + data_bits cnt) ≡ count
  shown = omega (arith, narrow)

  module _ (x : Ordered) (bits : x.order.bits ≡ count) where
    front_end_whole : length (frame_of x) * 8 ≡ data_bits cnt * 8 + control_bits cnt * 8
    front_end_whole = omega (arith, frame_length x)

  pub write_front_end_reads : ReadsAs m 0x24
  unfolding command_bits order_fits
  write_front_end_reads ahead address value frame bits lent fit =
      let x = ordered_as 0x24 ahead address value frame bits lent in
      let e = eqb-true bits count (both (eqb bits count) (leb bits (8 * length lent)) fit).0 in
      let whole = front_end_whole x e in
      let p = shown ∙ sym e in
      frame_read m x 4 (lit< tt) refl refl
      (λ time. record { kind = refl; fields = λ i. p i ∷ []; no_flip = refl; no_unsteady = refl; low = lit< tt }) refl refl
      8 refl whole (λ some. omega arith) (λ some. front_end_field 4 refl refl (frame_of x) (frame_binary x) some (stopped 17 m) whole)

  pub read_front_end_reads : ReadsAs m 0x25
  unfolding command_bits order_fits
  read_front_end_reads ahead address value frame bits lent fit =
      let x = ordered_as 0x25 ahead address value frame bits lent in
      let e = eqb-true bits count (both (eqb bits count) (leb bits (8 * length lent)) fit).0 in
      let whole = front_end_whole x e in
      let p = shown ∙ sym e in
      frame_read m x 5 (lit< tt) refl refl
      (λ time. record { kind = refl; fields = λ i. p i ∷ []; no_flip = refl; no_unsteady = refl; low = lit< tt }) refl refl
      8 refl whole (λ some. omega arith) (λ some. front_end_field 5 refl refl (frame_of x) (frame_binary x) some (stopped 17 m) whole)

  pub write_receiver_reads : ReadsAs m 0x26
  unfolding command_bits order_fits
  write_receiver_reads ahead address value frame bits lent fit =
      let x = ordered_as 0x26 ahead address value frame bits lent in
      let e = eqb-true bits (receiver_bits cnt) (both (eqb bits (receiver_bits cnt)) (leb bits (8 * length lent)) fit).0 in
      let whole : length (frame_of x) ≡ receiver_bits cnt = frame_length x ∙ e in
      let p = sym e in
      frame_read m x 6 (lit< tt) refl refl
      (λ time. record { kind = refl; fields = λ i. p i ∷ []; no_flip = refl; no_unsteady = refl; low = lit< tt }) refl refl
      1 refl (omega arith) (λ some. omega arith) (λ some. receiver_field (frame_of x) some (stopped 17 m) whole)
