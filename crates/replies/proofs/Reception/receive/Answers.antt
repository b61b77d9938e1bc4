-- `Reception::receive` goes through a range bit by bit, up to its end or to a whole reply: a turn, and the end.
-- Assumes nothing.
use mathlib.Core.Path.{◌∙◌, sym}
use native.Mathlib.Omega.{arith}
use Rattle.replies.proofs.ReceiveLoop.{again, over, whole}
use Rattle.replies.proofs.Reception.receive.Goals as goal

pub step-state-requires : goal.step-state-requires
step-state-requires c =
    let f = c.loop.invariant.fits in
    (rw c.read.ensures (omega arith), omega (arith, f.most, f.within))

pub loop-preserved : goal.loop-preserved
loop-preserved c =
    again c.loop.invariant _ _ _ c.read.ensures c.step-state.ensures c.next-at.ensures c.loop-test.true (sym c.is_whole.ensures ∙ c.if-is_whole.false)

pub returns-then-is_whole-clause-buffer_after : goal.returns-then-is_whole-clause-buffer_after
returns-then-is_whole-clause-buffer_after c = whole c.loop.invariant (sym c.is_whole.ensures ∙ c.if-is_whole.true)

pub returns-clause-buffer_after : goal.returns-clause-buffer_after
returns-clause-buffer_after c = over c.loop.invariant (omega arith)
