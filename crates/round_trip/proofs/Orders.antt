-- One order: from a state that the orders ahead of it leave, its bits bring its record, and leave such a state again.
-- Assumes nothing.
use mathlib.Core.Bool.{Bool, true, false, not, ◌&&◌}
use mathlib.Core.List.{[], ◌∷◌}
use mathlib.Core.Logic.{⊎_elim}
use mathlib.Core.Path.{◌≡◌, ◌∙◌, sym, ap, subst}
use Prim.Native.Nat.{ℕ, ◌+◌, ◌/◌, ◌%◌, ◌<◌, ◌≤◌}
use native.Mathlib.Nat.{add-zero}
use native.Mathlib.Omega.{arith}
use lib.Dec.{ltb, eqb}
use lib.ListN.{length, length-append, length-replicate}
use borrow.Author.Tests.{ltb-true, lt-ltb, le-ltb, leb-true}
use Rattle.bits.proofs.Truth.{both, either, or_right, not_both}
use Rattle.recogniser.specs.Parts.{idle}
use Rattle.records.specs.declared.Record.{Record}
use Rattle.records.specs.Records.{record_words}
use Rattle.plans.specs.declared.Plan.{Plan}
use Rattle.plans.specs.Plan.{plan_fits}
use Rattle.registers.specs.Registers.{cnt_of}
use Rattle.controller.specs.Widths.{ModelFits}
use Rattle.timing.specs.declared.Earlier.{Earlier}
use Rattle.timing.specs.Table.{zeros_asked}
use Rattle.timing.specs.TooClose.{is_none, earlier_of, earlier_below, cycles_back, too_close, flagged, flag_too_close}
use Rattle.timing.proofs.Distance.{without_subtraction}
use Rattle.calls.specs.Run.{state_after, words_after}
use Rattle.calls.specs.Turn.{System, Machine, cnt_at, turn_of}
use Rattle.calls.proofs.FrameTurns.{system}
use Rattle.calls.proofs.TurnsKept.{Kept, kept}
use Rattle.orders.specs.declared.Context.{Context}
use Rattle.orders.specs.Fields.{Ordered, is_known, address_fits, value_fits, frame_fits, order_fits}
use Rattle.orders.specs.Streams.{zeros, command_bits, order_bits}
use Rattle.orders.specs.Composing.{cnt_after, context_after, zeros_fit}
use Rattle.round_trip.specs.ReadBack.{Shows}
use Rattle.round_trip.proofs.KnownKinds.{EachKind, known_case}
use Rattle.round_trip.proofs.Cycles.{later, Leads, state_behind, words_behind, zeros_pass}
use Rattle.round_trip.proofs.CntWritten.{CntThere, cnt_there}
use Rattle.round_trip.proofs.CommandRead.{CommandRead, ReadsAs, tray_behind}
use Rattle.round_trip.proofs.TriggersRead.{lv1_reads, bcr_reads, ecr_reads, cal_reads, sync_reads}
use Rattle.round_trip.proofs.SlowsRead.{Stands, write_register_reads, read_register_reads, write_fifo_reads, read_fifo_reads, enable_reads, reset_reads}
use Rattle.round_trip.proofs.SlowsRead.{reset_front_ends_reads}
use Rattle.round_trip.proofs.FramesRead.{write_front_end_reads, read_front_end_reads, write_receiver_reads}

-- A command of any kind.
each_reads : (m : Machine) → Stands m → EachKind (ReadsAs m)
each_reads m s = record {
  lv1 = lv1_reads m;
  bcr = bcr_reads m;
  ecr = ecr_reads m;
  cal = cal_reads m;
  sync = sync_reads m;
  write_register = write_register_reads m s;
  read_register = read_register_reads m s;
  write_fifo = write_fifo_reads m;
  read_fifo = read_fifo_reads m;
  write_front_end = write_front_end_reads m s;
  read_front_end = read_front_end_reads m s;
  write_receiver = write_receiver_reads m s;
  enable = enable_reads m;
  reset = reset_reads m;
  reset_front_ends = reset_front_ends_reads m;
}

command_reads : (m : Machine) → Stands m → (x : Ordered) → order_fits (cnt_at m) x.order (length x.lent) ≡ true → CommandRead m x
unfolding order_fits
command_reads m s x fit =
    let o = x.order in
    let known = (both (is_known o.kind) (address_fits o && (value_fits o && frame_fits (cnt_at m) o (length x.lent))) fit).0 in
    known_case (ReadsAs m) (each_reads m s) o.kind known o.zeros o.address o.value o.frame o.bits x.lent fit

-- What the orders ahead leave: the plan, CNT and the last kind as the composer has them, and the last record behind.
pub record Ready (plan : Plan) (c : Context) (m : Machine) : Type 0 where
  pub plan_is : m.plan ≡ plan
  pub cnt : cnt_at m ≡ c.cnt
  pub last : m.earlier.kind ≡ c.last
  pub below : earlier_below m.earlier m.next ≡ true
  pub sixteen : length m.model.registers ≡ 16
  pub widths : ModelFits m.model

pub record OrderRead (plan : Plan) (c : Context) (m : Machine) (x : Ordered) : Type 0 where
  pub written : Record
  pub words : words_after turn_of (system idle m) (order_bits x) ≡ record_words (written ∷ [])
  pub shows : Shows (m.next + length (order_bits x)) x.order written
  pub recogniser : (state_after turn_of (system idle m) (order_bits x)).recogniser ≡ idle
  pub tray : (state_after turn_of (system idle m) (order_bits x)).machine.tray ≡ tray_behind m.tray x
  pub ready : Ready plan (context_after plan c x.order) (state_after turn_of (system idle m) (order_bits x)).machine

-- A command behind as many zeros as the timing table asks is not too close.
in_time_lem : (e : Earlier) (next ahead time kind cnt : ℕ) → earlier_below e next ≡ true → zeros_asked e.kind kind ≤ ahead
    → time + 1 ≡ next + ahead + (cycles_back kind cnt + 1) → too_close e time kind cnt ≡ false
in_time_lem e next ahead time kind cnt below enough last =
    let asked = zeros_asked e.kind kind in
    let back = cycles_back kind cnt in
    without_subtraction e time kind cnt
    ∙ ⊎_elim (λ none. ap (λ (b : Bool). not b && ltb time (e.time + (back + 1) + asked)) none)
    (λ l.
    let before = ltb-true e.time next l in
    not_both (not (is_none e)) (ltb time (e.time + (back + 1) + asked)) (λ _. le-ltb time (e.time + (back + 1) + asked) (omega arith)))
    (either (is_none e) (ltb e.time next) below)

module _ (plan : Plan) (fits : plan_fits plan ≡ true) (c : Context) (m : Machine) (r : Ready plan c m) (x : Ordered)
    (fit : order_fits c.cnt x.order (length x.lent) ≡ true) (enough : zeros_fit c x.order ≡ true) where
  -- behind the zeros
  abbrev there : Machine
  there = later x.order.zeros m

  pass : Leads (system idle m) (zeros x.order.zeros) (system idle there)
  pass = zeros_pass x.order.zeros m

  read : CommandRead there x
  read = command_reads there
      (record { there = subst CntThere (sym r.plan_is) (cnt_there plan fits); sixteen = r.sixteen; widths = r.widths })
      x (subst (λ (n : ℕ). order_fits n x.order (length x.lent) ≡ true) (sym r.cnt) fit)

  abbrev written : Record
  written = flagged m.earlier (cnt_at m) read.written

  long : length (order_bits x) ≡ x.order.zeros + length (command_bits x)
  long = length-append (zeros x.order.zeros) (command_bits x) ∙ ap (λ n. n + length (command_bits x)) (length-replicate x.order.zeros 0)

  not_close : too_close m.earlier read.written.time read.written.kind (cnt_at m) ≡ false
  not_close =
      let kind = x.order.kind in
      let asked : zeros_asked m.earlier.kind kind ≤ x.order.zeros =
      subst (λ (n : ℕ). zeros_asked n kind ≤ x.order.zeros) (sym r.last) (leb-true (zeros_asked c.last kind) x.order.zeros enough) in
      ap (λ (k : ℕ). too_close m.earlier read.written.time k (cnt_at m)) read.tells.kind
      ∙ in_time_lem m.earlier m.next x.order.zeros read.written.time kind (cnt_at m) r.below asked
      (read.time ∙ ap (λ n. m.next + x.order.zeros + n) read.long)

  no_flag : written.flags ≡ read.written.flags
  no_flag = ap (λ (b : Bool). read.written.flags + flag_too_close b) not_close ∙ add-zero read.written.flags

  shown : Shows (m.next + length (order_bits x)) x.order written
  shown =
      let t = read.tells in
      record {
        time = omega (arith, read.time, long);
        kind = t.kind;
        fields = t.fields;
        flags = omega (arith, no_flag, t.low);
        no_flip = ap (λ n. n / 2 % 2) no_flag ∙ t.no_flip;
        no_unsteady = ap (λ n. n / 16 % 2) no_flag ∙ t.no_unsteady;
        no_crowding = omega (arith, no_flag, t.low);
      }

  abbrev behind : System
  behind = state_after turn_of (system idle m) (order_bits x)

  same : behind ≡ state_after turn_of (system idle there) (command_bits x)
  same = state_behind pass (command_bits x)

  stays : Kept (system idle m) (order_bits x)
  stays = kept (order_bits x) (system idle m)

  earlier_is : behind.machine.earlier ≡ earlier_of read.written
  earlier_is = ap (λ (s : System). s.machine.earlier) same ∙ read.earlier

  is_below : earlier_below behind.machine.earlier behind.machine.next ≡ true
  is_below =
      let t : read.written.time < behind.machine.next = omega (arith, stays.next, read.time, long) in
      ap (λ (e : Earlier). earlier_below e behind.machine.next) earlier_is
      ∙ or_right (eqb read.written.kind 0) (ltb read.written.time behind.machine.next) (lt-ltb _ _ t)

  pub order_read : OrderRead plan c m x
  order_read = record {
    written = written;
    words = words_behind pass (command_bits x) ∙ read.words;
    shows = shown;
    recogniser = ap (λ (s : System). s.recogniser) same ∙ read.recogniser;
    tray = ap (λ (s : System). s.machine.tray) same ∙ read.tray;
    ready = record {
      plan_is = stays.plan ∙ r.plan_is;
      cnt = (λ i. cnt_of (stays.plan i) (same i).machine.model) ∙ read.cnt ∙ (λ i. cnt_after (r.plan_is i) (r.cnt i) x.order);
      last = ap (λ (e : Earlier). e.kind) earlier_is ∙ read.tells.kind;
      below = is_below;
      sixteen = stays.registers r.sixteen;
      widths = stays.model r.widths;
    };
  }
