-- The taking loop meets `taken_of`: each way through its body cites a lemma over what the loop keeps.
-- Assumes nothing.
use mathlib.Core.Path.{◌≡◌, ◌∙◌}
use mathlib.Core.List.{List}
use Prim.Native.Nat.{ℕ, ◌+◌, ◌-◌, ◌<◌, ◌≤◌}
use native.Mathlib.Omega.{arith}
use mir.Syntax.{w64}
use mir.Val.{Fits}
use lib.ListN.{length}
use Rattle.limits.specs.Limits.{clock_limit}
use Rattle.bits.specs.declared.Cursor.{Cursor}
use Rattle.bits.specs.Bits.{bits_of}
use Rattle.bits.specs.Place.{place_under}
use Rattle.bits.proofs.Places.{Stands, stands}
use Rattle.recogniser.specs.declared.Recogniser.{Recogniser}
use Rattle.stretches.specs.declared.Walk.{Walk}
use Rattle.stretches.specs.Stretch.{stretch_of}
use Rattle.stretches.specs.Walk.{walk_of}
use Rattle.stretches.proofs.SingleCycles.{Passes}
use Rattle.stretches.proofs.Walks.{walk_stretch, walk_behind}
use Rattle.timing.proofs.Flagged.{below_later}
use Rattle.decoder.specs.declared.Decoder.{Decoder}
use Rattle.calls.specs.Take.{Call}
use Rattle.performing.specs.declared.Performed.{Performed}
use Rattle.calls.proofs.LoopInvariant.{Invariant, left, initially, stretch_walks, done, full, quiet, performed, moved, stretched_fits}
use Rattle.call_loop.proofs.run.Goals as goal

-- What a stretch leaves in bounds, by the next cycle, the call's bits, those taken ahead of it and its own.
record Bounds (next count taken on : ℕ) : Type 0 where
  fewer : count - (taken + on) < count - taken
  counts : Fits w64 (taken + on)
  clocks : Fits w64 (next + (taken + on))
  later : 1 ≤ next + (taken + on)
  in_time : next + (taken + on) - 1 < clock_limit
  on_time : next + (taken + on) ≤ clock_limit
  before : next + taken ≤ clock_limit

bounds : (next count taken on : ℕ) → (1 ≤ on) × (taken + on ≤ count) → next + count ≤ clock_limit → Bounds next count taken on
bounds next count taken on m short = record {
  fewer = omega arith;
  counts = omega arith;
  clocks = omega arith;
  later = omega arith;
  in_time = omega arith;
  on_time = omega arith;
  before = omega arith;
}

-- A turn with room for a record: its stretch as single cycles, what it leaves in bounds, and where the cursor stands behind it.
module _ {d : Decoder} {a : Call} {store tray list : List ℕ} {r : Recogniser} {p : Performed} {taken : ℕ} (g : Invariant d a store tray list r p taken)
    {cursor : Cursor} (b : Stands cursor (a.first + taken)) (more : taken < a.count) (room : 2 ≤ length list - p.at)
    {w : Walk} (e : w ≡ walk_of cursor (stretch_of r p.cnt (bits_of a.input (place_under cursor) (a.count - taken)))) where
  walks : Passes p.cnt r (left a taken) w.stretch
  walks = stretch_walks g more w.stretch (rw b.under at (walk_stretch cursor e))

  bounded : d.next + a.count ≤ clock_limit → Bounds d.next a.count taken w.stretch.taken
  bounded short = bounds _ _ _ _ (moved g more room w.stretch walks) short

  goes_on : Stands w.behind (a.first + (taken + w.stretch.taken))
  goes_on =
      let k = walk_behind cursor e _ b in
      record { inside = k.inside; under = omega (arith, k) }

pub loop-taken-init : goal.loop-taken-init
loop-taken-init c =
    let b = stands {place = c.args.first} c.at-cursor.ensures in (
      rw c.nothing-done.ensures (initially c.args.decoder _ c.requires.input_len_bound.2 c.requires.count_bound.2),
      record { inside = b.inside; under = omega (arith, b) },
    )

pub returns-then-list-done-lt-LIST_UNIT : goal.returns-then-list-done-lt-LIST_UNIT
returns-then-list-done-lt-LIST_UNIT c =
    rw c.ended.ensures (full c.loop-taken.invariant.0 c.loop-taken-test.true c.if-list-done-lt-LIST_UNIT.true)

pub overflow_add-taken : goal.overflow_add-taken
overflow_add-taken c =
    (bounded c.loop-taken.invariant.0 c.loop-taken.invariant.1 c.loop-taken-test.true c.if-list-done-lt-LIST_UNIT.false c.advance-walk.ensures
    c.requires.count_bound.0).counts

pub loop-taken-smaller-in-Nothing : goal.loop-taken-smaller-in-Nothing
loop-taken-smaller-in-Nothing c =
    (bounded c.loop-taken.invariant.0 c.loop-taken.invariant.1 c.loop-taken-test.true c.if-list-done-lt-LIST_UNIT.false c.advance-walk.ensures
    c.requires.count_bound.0).fewer

pub loop-taken-preserved-in-Nothing : goal.loop-taken-preserved-in-Nothing
loop-taken-preserved-in-Nothing c =
    let g = c.loop-taken.invariant.0 in
    let b = c.loop-taken.invariant.1 in
    let more = c.loop-taken-test.true in
    let room = c.if-list-done-lt-LIST_UNIT.false in
    let e = c.advance-walk.ensures in (
      quiet g more room _ (walks g b more room e) _ c.keep.ensures c.keep.auto.tray c.in-Nothing.is,
      goes_on g b more room e,
    )

pub overflow_add-time : goal.overflow_add-time
overflow_add-time c =
    (bounded c.loop-taken.invariant.0 c.loop-taken.invariant.1 c.loop-taken-test.true c.if-list-done-lt-LIST_UNIT.false c.advance-walk.ensures
    c.requires.count_bound.0).clocks

pub overflow_sub-time : goal.overflow_sub-time
overflow_sub-time c =
    (bounded c.loop-taken.invariant.0 c.loop-taken.invariant.1 c.loop-taken-test.true c.if-list-done-lt-LIST_UNIT.false c.advance-walk.ensures
    c.requires.count_bound.0).later

pub perform-done-requires : goal.perform-done-requires
perform-done-requires c =
    let g = c.loop-taken.invariant.0 in
    let s = c.loop-taken.invariant.1 in
    let more = c.loop-taken-test.true in
    let room = c.if-list-done-lt-LIST_UNIT.false in
    let e = c.advance-walk.ensures in
    let b = bounded g s more room e c.requires.count_bound.0 in
    record {
      time_lt_clock_limit = (b.in_time, (g.long ∙ c.requires.count_bound.1), stretched_fits g more room _ (walks g s more room e), room);
      clock_limit_value = (below_later c.loop-taken.done.earlier _ clock_limit b.before g.below, g.cnt_is);
    }

pub ended-requires-then-done : goal.ended-requires-then-done
ended-requires-then-done c =
    let g = c.loop-taken.invariant.0 in
    let s = c.loop-taken.invariant.1 in
    let more = c.loop-taken-test.true in
    let room = c.if-list-done-lt-LIST_UNIT.false in
    let e = c.advance-walk.ensures in (
      (bounded g s more room e c.requires.count_bound.0).on_time,
      (performed g more room _ (walks g s more room e) _ c.keep.ensures c.keep.auto.tray _ c.perform-done.ensures c.perform-done.auto.store).from,
    )

pub returns-then-done : goal.returns-then-done
returns-then-done c =
    let g = c.loop-taken.invariant.0 in
    let s = c.loop-taken.invariant.1 in
    let more = c.loop-taken-test.true in
    let room = c.if-list-done-lt-LIST_UNIT.false in
    let e = c.advance-walk.ensures in
    rw c.ended-then-done.ensures (
    (performed g more room _ (walks g s more room e) _ c.keep.ensures c.keep.auto.tray _ c.perform-done.ensures c.perform-done.auto.store).stopped
    c.if-done.true
    )

pub loop-taken-smaller : goal.loop-taken-smaller
loop-taken-smaller c =
    (bounded c.loop-taken.invariant.0 c.loop-taken.invariant.1 c.loop-taken-test.true c.if-list-done-lt-LIST_UNIT.false c.advance-walk.ensures
    c.requires.count_bound.0).fewer

pub loop-taken-preserved : goal.loop-taken-preserved
loop-taken-preserved c =
    let g = c.loop-taken.invariant.0 in
    let s = c.loop-taken.invariant.1 in
    let more = c.loop-taken-test.true in
    let room = c.if-list-done-lt-LIST_UNIT.false in
    let e = c.advance-walk.ensures in (
      (performed g more room _ (walks g s more room e) _ c.keep.ensures c.keep.auto.tray _ c.perform-done.ensures c.perform-done.auto.store).onwards
          c.if-done.false,
      goes_on g s more room e,
    )

pub returns : goal.returns
returns c = rw c.ended-2.ensures (done c.loop-taken.invariant.0 c.loop-taken-test.false)
