-- The Slow commands that carry no frame, read back.
-- Assumes nothing.
use mathlib.Core.Bool.{Bool, true, false, cond, ◌&&◌, ◌||◌}
use mathlib.Core.List.{[], ◌∷◌, ◌++◌}
use mathlib.Core.Path.{◌≡◌, ◌∙◌, refl, sym, ap, subst}
use Prim.Native.Nat.{ℕ, suc, ◌+◌, ◌*◌, ◌/◌, ◌%◌, ◌^◌, ◌<◌}
use native.Mathlib.Omega.{arith}
use lib.Dec.{eqb, ltb, lit<}
use lib.ListN.{length, get_or}
use borrow.Author.Tests.{ltb-true}
use Rattle.bits.proofs.Truth.{both, choice}
use Rattle.slow_fields.specs.Slow.{is_frame, length_of}
use Rattle.recogniser.specs.declared.Phase.TheVariants.{Field5}
use Rattle.recogniser.specs.declared.Request.TheVariants.{Slow}
use Rattle.recogniser.specs.declared.SlowRequest.TheVariants.{Command}
use Rattle.recogniser.specs.Parts.{start_of, idle}
use Rattle.recogniser.specs.Fields.{slow_request_of}
use Rattle.records.specs.declared.Cycle.TheVariants.{Recorded}
use Rattle.records.specs.declared.Record.{Record}
use Rattle.registers.specs.declared.Model.{Model}
use Rattle.registers.specs.Parts.{with_running}
use Rattle.plans.specs.Plan.{exists_at}
use Rattle.registers.specs.Registers.{cnt_of, read_of}
use Rattle.fifos.specs.Fifos.{read_word_of}
use Rattle.triggers.specs.declared.Acted.{Acted}
use Rattle.controller.specs.Commands.{slow_record, act_of}
use Rattle.controller.specs.Requests.{changes_registers}
use Rattle.controller.specs.Widths.{ModelFits}
use Rattle.controller.proofs.EffectKeeps.{after, cnt_kept}
use Rattle.controller.proofs.RecordStamps.{flags_low}
use Rattle.calls.specs.Turn.{Machine, cnt_at}
use Rattle.calls.proofs.FrameTurns.{system}
use Rattle.orders.specs.declared.Order.{Order}
use Rattle.orders.specs.Fields.{order, order_fits}
use Rattle.orders.specs.Streams.{number_bits, zeros, command_bits}
use Rattle.orders.specs.Composing.{cnt_after}
use Rattle.round_trip.proofs.Cycles.{later, Asks, asks_behind}
use Rattle.round_trip.proofs.Heads.{stopped, slow_head, head_begins, head_asks}
use Rattle.round_trip.proofs.KeptFields.{held_by, kept_asks, kept_number}
use Rattle.round_trip.proofs.CntWritten.{CntThere, written_cnt, missing_cnt, zeros_at}
use Rattle.round_trip.proofs.CommandRead.{Tells, Effects, ReadsAs, ordered_as, asked_read}

-- What the orders ahead have left: a plan that has CNT, sixteen registers, and numbers that fit.
pub record Stands (m : Machine) : Type 0 where
  pub there : CntThere m.plan
  pub sixteen : length m.model.registers ≡ 16
  pub widths : ModelFits m.model

module _ (m : Machine) where
  abbrev model : Model
  model = with_running false m.model

  -- Field 5 as a number,
  number_asks : (command address width value : ℕ) → command < 16 → address < 16 → is_frame command ≡ false → (eqb command 1 || eqb command 3) ≡ false
      → ltb 0 (length_of command (cnt_at m)) ≡ true → suc (length (number_bits width value)) ≡ length_of command (cnt_at m)
      → value / 2 ^ suc width ≡ 0 → value < 2 ^ 32
      → Asks (system idle m) (slow_head command address ++ number_bits (suc width) value) (later (length (number_bits width value)) (stopped 17 m))
      (slow_request_of command address value)
  number_asks command address width value known low plain keeps some whole fits narrow =
      let held : held_by command 0 (number_bits (suc width) value) ≡ value =
      ap (λ n. held_by command n (number_bits (suc width) value)) (sym fits) ∙ kept_number command keeps value narrow (suc width) in
      let bits = number_bits (suc width) value in
      let last = later (length (number_bits width value)) (stopped 17 m) in
      asks_behind (head_begins command address known low m some) bits
      (subst (λ v. Asks (system (start_of Field5 0 command address) (stopped 17 m)) bits last (slow_request_of command address v)) held
      (kept_asks command address plain (number_bits width value) (value / 2 ^ width % 2) 0 0 (stopped 17 m) (omega arith)))

  -- and as zeros that are only counted.
  zeros_ask : (command address width : ℕ) → command < 16 → address < 16 → is_frame command ≡ false
      → ltb 0 (length_of command (cnt_at m)) ≡ true → suc (length (zeros width)) ≡ length_of command (cnt_at m)
      → Asks (system idle m) (slow_head command address ++ zeros (suc width)) (later (length (zeros width)) (stopped 17 m))
      (slow_request_of command address (held_by command 0 (zeros (suc width))))
  zeros_ask command address width known low plain some whole =
      asks_behind (head_begins command address known low m some) (zeros (suc width))
      (kept_asks command address plain (zeros width) 0 0 0 (stopped 17 m) (omega arith))

  -- A request that leaves the registers alone, acted on.
  abbrev written : ℕ → ℕ → ℕ → Record
  written time command value = slow_record time command 0x01 value

  -- WrRegister: the register is there, or missing.
  module _ (s : Stands m) (address value time : ℕ) (narrow : value < 2 ^ 16) where
    write_cnt : cnt_of m.plan (after m.plan model (Slow (Command 0 address value)) time m.store) ≡ cond (eqb address m.plan.cnt) value (cnt_at m)
    unfolding act_of
    write_cnt =
        let v : value % 2 ^ 16 ≡ value = omega arith in
        choice (λ (a : Acted). cnt_of m.plan a.model ≡ cond (eqb address m.plan.cnt) value (cnt_at m)) (exists_at m.plan address)
        (λ _. written_cnt m.plan s.there model s.sixteen address (value % 2 ^ 16) ∙ rw v)
        (λ none. missing_cnt m.plan s.there model s.sixteen address value none)

    write_tells : (ahead frame bits flags : ℕ) → flags / 2 % 2 ≡ 0 → flags / 16 % 2 ≡ 0 → flags < 0x20
        → Tells (order 0x20 ahead address value frame bits) (slow_record time 0 flags (address * 65536 + value % 2 ^ 16))
    write_tells ahead frame bits flags f u l =
        let p : (address * 65536 + value % 2 ^ 16) / 65536 ≡ address = omega arith in
        let q : (address * 65536 + value % 2 ^ 16) % 65536 ≡ value = omega arith in
        record { kind = refl; fields = λ i. p i ∷ q i ∷ []; no_flip = f; no_unsteady = u; low = l }

    write_effects : (ahead frame bits : ℕ) (b : Bool) → exists_at m.plan address ≡ b
        → Effects m (order 0x20 ahead address value frame bits) model (Slow (Command 0 address value)) time
        (slow_record time 0 (cond b 0x01 0x08) (address * 65536 + value % 2 ^ 16))
    unfolding act_of
    write_effects ahead frame bits true e =
        record { recorded = rw e; at_time = refl; tells = write_tells ahead frame bits 0x01 refl refl (lit< tt); cnt = write_cnt }
    write_effects ahead frame bits false e =
        record { recorded = rw e; at_time = refl; tells = write_tells ahead frame bits 0x08 refl refl (lit< tt); cnt = write_cnt }

  pub write_register_reads : Stands m → ReadsAs m 0x20
  unfolding command_bits order_fits
  write_register_reads s ahead address value frame bits lent fit =
      let low = ltb-true address 16 (both (ltb address 16) (ltb value (2 ^ 16) && true) fit).0 in
      let narrow = ltb-true value (2 ^ 16) (both (ltb value (2 ^ 16)) true (both (ltb address 16) (ltb value (2 ^ 16) && true) fit).1).0 in
      asked_read m (ordered_as 0x20 ahead address value frame bits lent) model (Slow (Command 0 address value)) (m.next + 17 + 15) _
      (number_asks 0 address 15 value (lit< tt) low refl refl refl refl (omega arith) (omega arith)) refl
      (write_effects s address value (m.next + 17 + 15) narrow ahead frame bits (exists_at m.plan address) refl)
      (omega arith) refl refl

  -- A request that leaves the registers alone.
  module _ (command address value time : ℕ) (plain : changes_registers (Slow (Command command address value)) ≡ false) (o : Order)
      (same : cnt_at m ≡ cnt_after m.plan (cnt_at m) o) where
    plain_effects : (r : Record) → (act_of m.plan model (Slow (Command command address value)) time m.store).acted.cycle ≡ Recorded r
        → r.time ≡ time → Tells o r → Effects m o model (Slow (Command command address value)) time r
    plain_effects r recorded at_time tells = record {
      recorded = recorded;
      at_time = at_time;
      tells = tells;
      cnt = cnt_kept m.plan model (Slow (Command command address value)) time m.store plain ∙ same;
    }

  -- RdRegister. What is read has 16 bits.
  read_low : Stands m → (address : ℕ) → read_of m.plan model address < 2 ^ 16
  read_low s address =
      let w = m.model.warnings in
      let h = s.widths.each_register address in
      let l = flags_low w.wlv1 w.wfst w.wslw in
      choice (λ v. v < 2 ^ 16) (eqb address m.plan.csr) (λ _. omega arith) (λ _. h)

  read_effects : Stands m → (ahead address value frame bits time : ℕ) (b : Bool) → exists_at m.plan address ≡ b
      → Effects m (order 0x21 ahead address value frame bits) model (Slow (Command 1 address 0)) time
      (slow_record time 1 (cond b 0x01 0x08) (cond b (address * 65536 + read_of m.plan model address) (address * 65536)))
  unfolding act_of
  read_effects s ahead address value frame bits time true e =
      let low = read_low s address in
      let p : (address * 65536 + read_of m.plan model address) / 65536 ≡ address = omega arith in
      plain_effects 1 address 0 time refl (order 0x21 ahead address value frame bits) refl _ (rw e) refl
      (record { kind = refl; fields = λ i. p i ∷ []; no_flip = refl; no_unsteady = refl; low = lit< tt })
  read_effects s ahead address value frame bits time false e =
      let p : address * 65536 / 65536 ≡ address = omega arith in
      plain_effects 1 address 0 time refl (order 0x21 ahead address value frame bits) refl _ (rw e) refl
      (record { kind = refl; fields = λ i. p i ∷ []; no_flip = refl; no_unsteady = refl; low = lit< tt })

  pub read_register_reads : Stands m → ReadsAs m 0x21
  unfolding command_bits order_fits
  read_register_reads s ahead address value frame bits lent fit =
      let low = ltb-true address 16 (both (ltb address 16) true fit).0 in
      asked_read m (ordered_as 0x21 ahead address value frame bits lent) model (Slow (Command 1 address 0)) (m.next + 17 + 15) _
      (zeros_ask 1 address 15 (lit< tt) low refl refl refl) refl
      (read_effects s ahead address value frame bits (m.next + 17 + 15) (exists_at m.plan address) refl)
      (omega arith) refl refl

  pub write_fifo_reads : ReadsAs m 0x22
  unfolding command_bits order_fits act_of
  write_fifo_reads ahead address value frame bits lent fit =
      let narrow = ltb-true value (2 ^ 27) (both (ltb value (2 ^ 27)) true fit).0 in
      let time = m.next + 17 + 26 in
      let p : value % 2 ^ 27 ≡ value = omega arith in
      asked_read m (ordered_as 0x22 ahead address value frame bits lent) model (Slow (Command 2 0 value)) time _
      (number_asks 2 0 26 value (lit< tt) (lit< tt) refl refl refl refl (omega arith) (omega arith)) refl
      (plain_effects 2 0 value time refl (order 0x22 ahead address value frame bits) refl (written time 2 (value % 2 ^ 27)) refl refl
      (record { kind = refl; fields = λ i. p i ∷ []; no_flip = refl; no_unsteady = refl; low = lit< tt }))
      (omega arith) refl refl

  pub read_fifo_reads : ReadsAs m 0x23
  unfolding command_bits order_fits act_of
  read_fifo_reads ahead address value frame bits lent fit =
      let low = ltb-true address 16 (both (ltb address 16) true fit).0 in
      let time = m.next + 17 + 26 in
      let word = read_word_of m.store (address % 16) (get_or m.model.pointers.reads (address % 16) 0) in
      let p : (address % 16 * 2 ^ 27 + word) / 2 ^ 27 ≡ address = omega arith in
      asked_read m (ordered_as 0x23 ahead address value frame bits lent) model (Slow (Command 3 address 0)) time _
      (zeros_ask 3 address 26 (lit< tt) low refl refl refl) refl
      (plain_effects 3 address 0 time refl (order 0x23 ahead address value frame bits) refl (written time 3 (address % 16 * 2 ^ 27 + word)) refl refl
      (record { kind = refl; fields = λ i. p i ∷ []; no_flip = refl; no_unsteady = refl; low = lit< tt }))
      (omega arith) refl refl

  pub enable_reads : ReadsAs m 0x28
  unfolding command_bits act_of
  enable_reads ahead address value frame bits lent fit =
      let time = m.next + 16 in
      asked_read m (ordered_as 0x28 ahead address value frame bits lent) model (Slow (Command 8 0 0)) time _
      (head_asks 8 0 (lit< tt) (lit< tt) m refl refl) refl
      (plain_effects 8 0 0 time refl (order 0x28 ahead address value frame bits) refl (written time 8 0) refl refl
      (record { kind = refl; fields = refl; no_flip = refl; no_unsteady = refl; low = lit< tt }))
      (omega arith) refl refl

  pub reset_reads : ReadsAs m 0x29
  unfolding command_bits act_of
  reset_reads ahead address value frame bits lent fit =
      let time = m.next + 16 in
      asked_read m (ordered_as 0x29 ahead address value frame bits lent) model (Slow (Command 9 0 0)) time (written time 9 0)
      (head_asks 9 0 (lit< tt) (lit< tt) m refl refl) refl
      (record {
        recorded = refl;
        at_time = refl;
        tells = record { kind = refl; fields = refl; no_flip = refl; no_unsteady = refl; low = lit< tt };
        cnt = zeros_at 16 m.plan.cnt;
      })
      (omega arith) refl refl

  pub reset_front_ends_reads : ReadsAs m 0x2A
  unfolding command_bits order_fits act_of
  reset_front_ends_reads ahead address value frame bits lent fit =
      let narrow = ltb-true value (2 ^ 4) (both (ltb value (2 ^ 4)) true fit).0 in
      let time = m.next + 17 + 3 in
      let p : (value % 2 ^ 4 * 2 + 1) / 2 ≡ value = omega arith in
      asked_read m (ordered_as 0x2A ahead address value frame bits lent) model (Slow (Command 10 0 value)) time _
      (number_asks 10 0 3 value (lit< tt) (lit< tt) refl refl refl refl (omega arith) (omega arith)) refl
      (plain_effects 10 0 value time refl (order 0x2A ahead address value frame bits) refl (written time 10 (value % 2 ^ 4 * 2 + 1)) refl refl
      (record { kind = refl; fields = λ i. p i ∷ []; no_flip = refl; no_unsteady = refl; low = lit< tt }))
      (omega arith) refl refl
