-- `runs::list`: what holds from read to read is kept by a read, by the listing of a block and by its write.
-- Assumes nothing.
use Rattle.std.proofs.Common.{ℕ, ◌≤◌, Bool, List, length, sym, arith}
use lib.Seq.{length-take-le}
use Rattle.program.specs.declared.RunState.{RunState}
use Rattle.runs.proofs.UnderWay.{UnderWay, started, after_read, after_write, ran}
use Rattle.runs.proofs.list.Goals as goal
use Rattle.runs.proofs.list.Goals.{In_ok-received}

-- the run after a read
ready : (c : In_ok-received) → UnderWay c.args.prints.frames c.args.store.now c.args.tray.now c.in_ok-received.received c.loop.store c.loop.tray
    c.refill.new.input c.loop.output
ready c = after_read c.loop.invariant c.if-state.false c.in_ok-received.ensures

-- what it read is in the block of input
within : {frames : Bool} {store₀ tray₀ : List ℕ} {s : RunState} {store tray input output : List ℕ} → UnderWay frames store₀ tray₀ s store tray input output
    → s.length ≤ length input
within u = omega (arith, u.kept.places.length, u.kept.input_length)

pub loop-init : goal.loop-init
loop-init c = started _ _ _ _ _ c.requires.0 c.requires.1 (omega arith) (omega arith) _ c.start-state.ensures

pub slice_bounds-input-end : goal.slice_bounds-input-end
slice_bounds-input-end c = within (ready (goal.at.slice_bounds-input-end c).In_ok-received)

pub slice_bounds-list_block-end : goal.slice_bounds-list_block-end
slice_bounds-list_block-end c = sym (length-take-le _ _ (within (ready (goal.at.slice_bounds-list_block-end c).In_ok-received)))

pub list_block-state-requires : goal.list_block-state-requires
list_block-state-requires c =
    let u = ready (goal.at.list_block-state-requires c).In_ok-received in
    (u.kept.well_formed, rw (length-take-le _ _ (within u)) u.kept.places.next)

pub loop-preserved : goal.loop-preserved
loop-preserved c =
    let u = ready (goal.at.loop-preserved c).In_ok-received in
    after_write u c.list_block-state.ensures.after_steps (omega (arith, c.list_block-state.auto.out, u.kept.output_length))

pub returns-then-state : goal.returns-then-state
returns-then-state c = ran _ c.loop.invariant c.if-state.true _ c.finish.ensures
