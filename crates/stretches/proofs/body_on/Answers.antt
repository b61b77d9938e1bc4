-- `body_on` is a body, bit by bit, up to its fourth or to the end.
-- Assumes nothing.
use native.Mathlib.Omega.{arith}
use Rattle.bits.proofs.BitRanges.{bits_over}
use Rattle.recogniser.specs.Parts.{standing}
use Rattle.stretches.proofs.StretchLoops.{initially, again, over, last_cycle, body_left, body_last}
use Rattle.stretches.proofs.body_on.Goals as goal

pub loop-left-init : goal.loop-left-init
loop-left-init c = initially _ _ _ c.requires.0

pub returns-then-received-ge3 : goal.returns-then-received-ge3
returns-then-received-ge3 c =
    rw (c.of.ensures, c.body.ensures, c.standing.ensures)
    (last_cycle c.loop-left.invariant _ _
    (body_last _ _ _ _ c.loop-left-test.true c.next-at.ensures _ c.read-bit.ensures c.args.r _ _ c.if-received-ge3.true)
    c.next-at.ensures c.loop-left-test.true)

pub loop-left-preserved : goal.loop-left-preserved
loop-left-preserved c =
    again c.loop-left.invariant _ _
    (body_left _ _ _ _ c.loop-left-test.true c.next-at.ensures _ c.read-bit.ensures c.args.r _ _ _ c.nibble_with-nibble.ensures
    (omega (arith, c.if-received-ge3.false)))
    c.next-at.ensures c.loop-left-test.true

pub returns : goal.returns
returns c =
    rw c.standing-2.ensures (over c.loop-left.invariant _ (rw (bits_over _ _ c.loop-left-test.false)))
