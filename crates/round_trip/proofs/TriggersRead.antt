-- The exact LV1 and the Fasts, read back.
-- Assumes nothing.
use mathlib.Core.Bool.{Bool, true, false, ◌&&◌}
use mathlib.Core.List.{List, ◌++◌}
use mathlib.Core.Path.{◌≡◌, ◌∙◌, refl, sym, ap, subst}
use Prim.Native.Nat.{ℕ, ◌+◌, ◌/◌, ◌%◌, ◌<◌}
use native.Mathlib.Omega.{arith}
use lib.Dec.{lit<}
use lib.ListN.{length}
use Rattle.windows.specs.Windows.{is_fast}
use Rattle.recogniser.specs.declared.Request.TheVariants.{Lv1, Fast}
use Rattle.recogniser.specs.Parts.{idle}
use Rattle.records.specs.Records.{kind_fast, flag_acted, flag_flip, flag_sent}
use Rattle.triggers.specs.Triggers.{sends_of, lv1_record, fast_record}
use Rattle.controller.specs.Commands.{act_of}
use Rattle.controller.proofs.EffectKeeps.{cnt_kept}
use Rattle.timing.specs.TooClose.{cycles_back}
use Rattle.calls.specs.Turn.{Machine, cnt_at}
use Rattle.calls.proofs.FrameTurns.{system}
use Rattle.orders.specs.Fields.{Ordered}
use Rattle.orders.specs.Streams.{number_bits, header_bits, command_bits}
use Rattle.orders.specs.Composing.{cnt_after}
use Rattle.round_trip.specs.ReadBack.{used_fields, fields_shown}
use Rattle.round_trip.proofs.Cycles.{later, Asks}
use Rattle.round_trip.proofs.Heads.{lv1_asks, fast_asks}
use Rattle.round_trip.proofs.CommandRead.{CommandRead, ReadsAs, tray_behind, ordered_as, asked_read}

-- Flags of a command that is acted on or not, and sent or not.
record Plain (flags : ℕ) : Type 0 where
  no_flip : flags / 2 % 2 ≡ 0
  no_unsteady : flags / 16 % 2 ≡ 0
  low : flags < 0x20

sent_plain : (a b : Bool) → Plain (flag_acted a + flag_flip false + flag_sent b)
sent_plain true true = record { no_flip = refl; no_unsteady = refl; low = lit< tt }
sent_plain true false = record { no_flip = refl; no_unsteady = refl; low = lit< tt }
sent_plain false true = record { no_flip = refl; no_unsteady = refl; low = lit< tt }
sent_plain false false = record { no_flip = refl; no_unsteady = refl; low = lit< tt }

acted_plain : (a : Bool) → Plain (flag_acted a)
acted_plain true = record { no_flip = refl; no_unsteady = refl; low = lit< tt }
acted_plain false = record { no_flip = refl; no_unsteady = refl; low = lit< tt }

module _ (m : Machine) where
  pub lv1_reads : ReadsAs m 0x01
  unfolding command_bits act_of
  lv1_reads ahead address value frame bits lent fit =
      let running = m.model.running in
      let plain = sent_plain running (running && sends_of m.plan m.model) in
      asked_read m (ordered_as 0x01 ahead address value frame bits lent) m.model (Lv1 0) (m.next + 4)
      (lv1_record running 0 (sends_of m.plan m.model) m.model.counters (m.next + 4)) (lv1_asks m) refl
      (record {
        recorded = refl;
        at_time = refl;
        tells = record { kind = refl; fields = refl; no_flip = plain.no_flip; no_unsteady = plain.no_unsteady; low = plain.low };
        cnt = refl;
      })
      (omega arith) refl refl

  -- A Fast by its body. What is asked of an order of its kind computes.
  fast_read : (body : ℕ) → body < 16 → is_fast body ≡ true → (x : Ordered) → command_bits x ≡ header_bits ++ number_bits 4 body
      → kind_fast body ≡ x.order.kind → fields_shown (kind_fast body) 0 ≡ used_fields x.order → cnt_at m ≡ cnt_after m.plan (cnt_at m) x.order
      → 8 ≡ cycles_back x.order.kind (cnt_at m) → m.tray ≡ tray_behind m.tray x → CommandRead m x
  unfolding act_of
  fast_read body low fast x same kind fields cnt back tray =
      let plain = acted_plain m.model.running in
      asked_read m x m.model (Fast body) (m.next + 8) (fast_record m.model.running body (m.next + 8))
      (subst (λ (l : List ℕ). Asks (system idle m) l (later 8 m) (Fast body)) (sym same) (fast_asks body low fast m)) refl
      (record {
        recorded = refl;
        at_time = refl;
        tells = record { kind = kind; fields = fields; no_flip = plain.no_flip; no_unsteady = plain.no_unsteady; low = plain.low };
        cnt = cnt_kept m.plan m.model (Fast body) (m.next + 8) m.store refl ∙ cnt;
      })
      (rw same (omega arith)) (ap length same ∙ ap (λ n. n + 1) back) tray

  pub bcr_reads : ReadsAs m 0x11
  unfolding command_bits
  bcr_reads ahead address value frame bits lent fit =
      fast_read 0b0001 (lit< tt) refl (ordered_as 0x11 ahead address value frame bits lent) refl refl refl refl refl refl

  pub ecr_reads : ReadsAs m 0x12
  unfolding command_bits
  ecr_reads ahead address value frame bits lent fit =
      fast_read 0b0010 (lit< tt) refl (ordered_as 0x12 ahead address value frame bits lent) refl refl refl refl refl refl

  pub cal_reads : ReadsAs m 0x14
  unfolding command_bits
  cal_reads ahead address value frame bits lent fit =
      fast_read 0b0100 (lit< tt) refl (ordered_as 0x14 ahead address value frame bits lent) refl refl refl refl refl refl

  pub sync_reads : ReadsAs m 0x18
  unfolding command_bits
  sync_reads ahead address value frame bits lent fit =
      fast_read 0b1000 (lit< tt) refl (ordered_as 0x18 ahead address value frame bits lent) refl refl refl refl refl refl
