-- `hunt_on` is hunting, bit by bit, up to the first window that means something or to the end.
-- Assumes nothing.
use mathlib.Core.Path.{◌∙◌, sym}
use Rattle.bits.proofs.BitRanges.{bits_over}
use Rattle.stretches.proofs.StretchLoops.{initially, again, over, last_cycle, hunt_left, hunt_last}
use Rattle.stretches.proofs.hunt_on.Goals as goal

pub loop-left-init : goal.loop-left-init
loop-left-init c = initially _ _ _ c.requires.0

pub loop-left-preserved : goal.loop-left-preserved
loop-left-preserved c =
    again c.loop-left.invariant _ _
    (hunt_left _ _ _ _ c.loop-left-test.true c.next-at.ensures _ c.read.ensures _ _ c.window_with-window.ensures
    (sym c.is_quiet.ensures ∙ c.if-is_quiet.true))
    c.next-at.ensures c.loop-left-test.true

pub returns-in-loop-left : goal.returns-in-loop-left
returns-in-loop-left c =
    rw (c.of.ensures, c.hunted.ensures)
    (last_cycle c.loop-left.invariant _ _
    (hunt_last _ _ _ _ c.loop-left-test.true c.next-at.ensures _ c.read.ensures _ _ c.window_with-window.ensures
    (sym c.is_quiet.ensures ∙ c.if-is_quiet.false))
    c.next-at.ensures c.loop-left-test.true)

pub returns : goal.returns
returns c =
    rw (c.of-2.ensures, c.hunting.ensures)
    (over c.loop-left.invariant _ (rw (bits_over _ _ c.loop-left-test.false)))
