-- A frame's last bit writes its record, and behind it the tray holds the frame's bits, as the order gave them.
-- Assumes nothing.
use mathlib.Core.Bool.{true, cond, ◌&&◌}
use mathlib.Core.List.{List, [], ◌∷◌, ◌++◌, append-nil}
use mathlib.Core.Path.{◌≡◌, ◌∙◌, refl, sym, ap, subst}
use Prim.Native.Nat.{ℕ, ◌+◌, ◌*◌, ◌/◌, ◌^◌, ◌<◌, ◌≤◌}
use native.Mathlib.Omega.{arith}
use lib.Dec.{eqb, leb}
use lib.ListN.{length}
use borrow.Author.Tests.{eqb-true, leb-true}
use Rattle.limits.specs.Limits.{tray_length}
use Rattle.bits.proofs.Truth.{both, choice}
use Rattle.recogniser.specs.Parts.{idle}
use Rattle.frames.specs.Tray.{part_of, PartHolds, filled_of}
use Rattle.frames.proofs.FrameFill.{part_holds}
use Rattle.records.specs.declared.Record.{Record}
use Rattle.records.specs.Records.{head_of, kind_of, kind_slow, is_frame_head}
use Rattle.plans.specs.declared.Plan.{Plan}
use Rattle.plans.specs.Plan.{plan_fits}
use Rattle.calls.specs.Run.{state_after}
use Rattle.calls.specs.Turn.{System, Machine, turn_of}
use Rattle.calls.proofs.RunFaithful.{state_append}
use Rattle.calls.proofs.FrameEnds.{EndsWithFrame, ends_behind, ends_with_frame}
use Rattle.calls.proofs.FrameTurns.{system}
use Rattle.calls.proofs.TurnsKept.{kept}
use Rattle.orders.specs.declared.Context.{Context}
use Rattle.orders.specs.declared.Order.{Order}
use Rattle.orders.specs.Fields.{Ordered, is_known, is_frame_kind, frame_count, address_fits, value_fits, frame_fits, order_fits}
use Rattle.orders.specs.Streams.{frame_of, order_bits, stream_of}
use Rattle.orders.specs.Composing.{start, context_after, refusal_from}
use Rattle.orders.proofs.StreamBits.{frame_binary, frame_length}
use Rattle.round_trip.specs.ReadBack.{Shows, Fit, opened, FrameRoundTrip}
use Rattle.round_trip.proofs.Orders.{Ready, OrderRead, order_read}
use Rattle.round_trip.proofs.RoundTrip.{first_fits, hunting, opened_ready}

-- A frame that fits has at most as many bits as the tray.
count_low : (kind cnt : ℕ) → cnt < 2 ^ 16 → frame_count kind cnt ≤ 8 * tray_length
count_low kind cnt low = choice (λ (n : ℕ). n ≤ 8 * tray_length) (eqb kind (kind_slow 6)) (λ _. omega arith) (λ _. omega arith)

frame_low : (cnt : ℕ) (o : Order) (bytes : ℕ) → cnt < 2 ^ 16 → is_frame_kind o.kind ≡ true → order_fits cnt o bytes ≡ true → o.bits ≤ 8 * tray_length
unfolding order_fits
frame_low cnt o bytes low carries fit =
    let known = (both (is_known o.kind) (address_fits o && (value_fits o && frame_fits cnt o bytes)) fit).1 in
    let value = (both (address_fits o) (value_fits o && frame_fits cnt o bytes) known).1 in
    let frame = (both (value_fits o) (frame_fits cnt o bytes) value).1 in
    let all : (eqb o.bits (frame_count o.kind cnt) && leb o.bits (8 * bytes)) ≡ true = rw carries at frame in
    let e = eqb-true o.bits (frame_count o.kind cnt) (both (eqb o.bits (frame_count o.kind cnt)) (leb o.bits (8 * bytes)) all).0 in
    omega (arith, e, count_low o.kind cnt low)

-- The first word of a record that shows a frame's order.
frame_head : (n : ℕ) (o : Order) (r : Record) → is_frame_kind o.kind ≡ true → Shows n o r → (is_frame_head (head_of r) ≡ true) × (head_of r / 65536 ≡ r.time)
frame_head n o r carries s =
    let high = leb-true o.kind (kind_slow 6) (both (leb (kind_slow 4) o.kind) (leb o.kind (kind_slow 6)) carries).1 in
    let kind : kind_of (head_of r) ≡ o.kind = omega (arith, s.kind, s.flags) in
    (rw kind carries, omega (arith, s.kind, s.flags))

order_ends : (plan : Plan) (c : Context) (m : Machine) (x : Ordered) → is_frame_kind x.order.kind ≡ true → OrderRead plan c m x
    → EndsWithFrame (system idle m) (order_bits x)
order_ends plan c m x carries f =
    let head = frame_head (m.next + length (order_bits x)) x.order f.written carries f.shows in
    ends_with_frame (system idle m) (order_bits x) (head_of f.written) f.written.value f.words head.0 (omega (arith, head.1, f.shows.time))

-- What some orders and a frame's behind them leave.
record FrameLeft (m : Machine) (before : List Ordered) (x : Ordered) : Type 0 where
  ends : EndsWithFrame (system idle m) (stream_of (before ++ (x ∷ [])))
  under : List ℕ
  long : length under ≡ length m.tray
  tray : (state_after turn_of (system idle m) (stream_of (before ++ (x ∷ [])))).machine.tray ≡ filled_of 0 under (frame_of x)
  low : x.order.bits ≤ 8 * tray_length

module _ (plan : Plan) (fits : plan_fits plan ≡ true) (x : Ordered) (carries : is_frame_kind x.order.kind ≡ true) (after : List Ordered) where
  frame_left : (before : List Ordered) (c : Context) (n : ℕ) (m : Machine) → Ready plan c m → (refusal_from plan c n (before ++ (x ∷ after))).number ≡ 0
      → FrameLeft m before x
  unfolding stream_of
  frame_left [] c n m r h =
      let first = first_fits plan c n x after h in
      let f = order_read plan fits c m r x first.fit first.enough in
      let own : cond (is_frame_kind x.order.kind) (filled_of 0 m.tray (frame_of x)) m.tray ≡ filled_of 0 m.tray (frame_of x) = rw carries in
      record {
        ends = subst (EndsWithFrame (system idle m)) (sym (append-nil (order_bits x))) (order_ends plan c m x carries f);
        under = m.tray;
        long = refl;
        tray = ap (λ (l : List ℕ). (state_after turn_of (system idle m) l).machine.tray) (append-nil (order_bits x)) ∙ f.tray ∙ own;
        low = frame_low c.cnt x.order (length x.lent) (omega (arith, r.cnt, r.widths.each_register m.plan.cnt)) carries first.fit;
      }
  frame_left (y ∷ ys) c n m r h =
      let first = first_fits plan c n y (ys ++ (x ∷ after)) h in
      let f = order_read plan fits c m r y first.fit first.enough in
      let later = frame_left ys (context_after plan c y.order) (n + 1) (state_after turn_of (system idle m) (order_bits y)).machine f.ready first.rest in
      record {
        ends = ends_behind (system idle m) (order_bits y) (stream_of (ys ++ (x ∷ [])))
            (subst (λ (s : System). EndsWithFrame s (stream_of (ys ++ (x ∷ [])))) (sym (hunting f)) later.ends);
        under = later.under;
        long = later.long ∙ (kept (order_bits y) (system idle m)).tray;
        tray = ap (λ (s : System). s.machine.tray) (state_append turn_of (system idle m) (order_bits y) (stream_of (ys ++ (x ∷ []))))
            ∙ ap (λ (s : System). (state_after turn_of s (stream_of (ys ++ (x ∷ [])))).machine.tray) (hunting f) ∙ later.tray;
        low = later.low;
      }

module _ (plan : Plan) (store tray : List ℕ) (before : List Ordered) (x : Ordered) (after : List Ordered) (fit : Fit plan (before ++ (x ∷ after)))
    (carries : is_frame_kind x.order.kind ≡ true) where
  left : FrameLeft (opened plan store tray).machine before x
  left = frame_left plan fit.plan_fits_lem x carries after before start 0 (opened plan store tray).machine (opened_ready plan store tray)
      fit.orders_fit

  pub frame_ends : EndsWithFrame (opened plan store tray) (stream_of (before ++ (x ∷ [])))
  frame_ends = left.ends

pub frame_round_trip : FrameRoundTrip
frame_round_trip plan store tray before x after fit carries whole =
    let f = left plan store tray before x after fit carries in
    let long = frame_length x in
    let part = part_holds (frame_of x) f.under (frame_binary x) (omega (arith, f.long, f.low, whole)) in
    record { part = subst (PartHolds (frame_of x)) (λ i. part_of (sym f.tray i) (long i)) part }
