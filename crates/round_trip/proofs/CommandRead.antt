-- What a command's bits bring from an empty window on: its record, and an empty window again.
-- Assumes nothing.
use mathlib.Core.Bool.{true, cond}
use mathlib.Core.List.{List, [], ◌∷◌}
use mathlib.Core.Path.{◌≡◌, ◌∙◌, ap}
use Prim.Native.Nat.{ℕ, ◌+◌, ◌/◌, ◌%◌, ◌<◌}
use lib.ListN.{length}
use Rattle.recogniser.specs.declared.Request.{Request}
use Rattle.recogniser.specs.Parts.{idle}
use Rattle.frames.specs.Tray.{tray_of, filled_of}
use Rattle.records.specs.declared.Cycle.{Cycle}
use Rattle.records.specs.declared.Cycle.TheVariants.{Recorded}
use Rattle.records.specs.declared.Record.{Record}
use Rattle.records.specs.Records.{record_words, words_of}
use Rattle.registers.specs.declared.Model.{Model}
use Rattle.registers.specs.Registers.{cnt_of}
use Rattle.controller.specs.Commands.{act_of}
use Rattle.controller.proofs.EffectKeeps.{after}
use Rattle.timing.specs.TooClose.{cycles_back, earlier_of, flagged, flagged_cycle, earlier_after}
use Rattle.calls.specs.Run.{state_after, words_after}
use Rattle.calls.specs.Turn.{System, Machine, cnt_at, turn_of}
use Rattle.calls.proofs.FrameTurns.{system}
use Rattle.orders.specs.declared.Order.{Order}
use Rattle.orders.specs.Fields.{Ordered, order, is_frame_kind, order_fits}
use Rattle.orders.specs.Streams.{frame_of, command_bits}
use Rattle.orders.specs.Composing.{cnt_after}
use Rattle.round_trip.specs.ReadBack.{used_fields, fields_shown}
use Rattle.round_trip.proofs.Cycles.{at_cycle, Asks}

-- What a record shows of an order, ahead of the flag that goes by the earlier record.
pub record Tells (o : Order) (r : Record) : Type 0 where
  pub kind : r.kind ≡ o.kind
  pub fields : fields_shown r.kind r.value ≡ used_fields o
  pub no_flip : r.flags / 2 % 2 ≡ 0
  pub no_unsteady : r.flags / 16 % 2 ≡ 0
  pub low : r.flags < 0x20

-- The tray behind an order: a frame's bits stand in it.
abbrev pub tray_behind : List ℕ → Ordered → List ℕ
tray_behind tray x = cond (is_frame_kind x.order.kind) (filled_of 0 tray (frame_of x)) tray

pub record CommandRead (m : Machine) (x : Ordered) : Type 0 where
  pub written : Record
  pub words : words_after turn_of (system idle m) (command_bits x) ≡ record_words (flagged m.earlier (cnt_at m) written ∷ [])
  pub tells : Tells x.order written
  pub time : written.time + 1 ≡ m.next + length (command_bits x)
  pub long : length (command_bits x) ≡ cycles_back x.order.kind (cnt_at m) + 1
  pub recogniser : (state_after turn_of (system idle m) (command_bits x)).recogniser ≡ idle
  pub earlier : (state_after turn_of (system idle m) (command_bits x)).machine.earlier ≡ earlier_of written
  pub cnt : cnt_of m.plan (state_after turn_of (system idle m) (command_bits x)).machine.model ≡ cnt_after m.plan (cnt_at m) x.order
  pub tray : (state_after turn_of (system idle m) (command_bits x)).machine.tray ≡ tray_behind m.tray x

-- A request in a cycle, at a model: what it records, and what the composer says of CNT behind it.
pub record Effects (m : Machine) (o : Order) (model : Model) (q : Request) (time : ℕ) (r : Record) : Type 0 where
  pub recorded : (act_of m.plan model q time m.store).acted.cycle ≡ Recorded r
  pub at_time : r.time ≡ time
  pub tells : Tells o r
  pub cnt : cnt_of m.plan (after m.plan model q time m.store) ≡ cnt_after m.plan (cnt_at m) o

pub asked_read : (m : Machine) (x : Ordered) (model : Model) (q : Request) (time : ℕ) (r : Record)
    → Asks (system idle m) (command_bits x) (at_cycle time model m) q → cnt_of m.plan model ≡ cnt_at m → Effects m x.order model q time r
    → time + 1 ≡ m.next + length (command_bits x) → length (command_bits x) ≡ cycles_back x.order.kind (cnt_at m) + 1 → m.tray ≡ tray_behind m.tray x
    → CommandRead m x
unfolding tray_of
asked_read m x model q time r asks same e last long tray =
    let flags : Cycle → Cycle = λ c. flagged_cycle m.earlier (cnt_of m.plan model) c in
    record {
      written = r;
      words = asks.words ∙ ap (λ c. words_of (flags c)) e.recorded ∙ ap (λ cnt. record_words (flagged m.earlier cnt r ∷ [])) same;
      tells = e.tells;
      time = ap (λ n. n + 1) e.at_time ∙ last;
      long = long;
      recogniser = ap (λ (s : System). s.recogniser) asks.state;
      earlier = ap (λ (s : System). s.machine.earlier) asks.state ∙ ap (λ c. earlier_after m.earlier (flags c)) e.recorded;
      cnt = ap (λ (s : System). cnt_of m.plan s.machine.model) asks.state ∙ e.cnt;
      tray = ap (λ (s : System). s.machine.tray) asks.state ∙ tray;
    }

-- Of a kind: whatever an order of it holds, if it is fit.
abbrev pub ordered_as : ℕ → ℕ → ℕ → ℕ → ℕ → ℕ → List ℕ → Ordered
ordered_as kind ahead address value frame bits lent = record { order = order kind ahead address value frame bits; lent = lent }

abbrev pub ReadsAs : Machine → ℕ → Type 0
ReadsAs m kind =
    (ahead address value frame bits : ℕ) (lent : List ℕ) → order_fits (cnt_at m) (order kind ahead address value frame bits) (length lent) ≡ true
    → CommandRead m (ordered_as kind ahead address value frame bits lent)
