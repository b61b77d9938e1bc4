-- `Judging::judge_block` goes through a block line by line.
-- Assumes nothing.
use Rattle.std.proofs.Common.{arith}
use borrow.Author.Tests.{not-true, not-false}
use Rattle.judging.proofs.BlockLoop.{advances, line_ended, line_open, at_end, at_refusal}
use Rattle.judging.proofs.Judging.judge_block.Goals as goal

pub loop-next-smaller-then-scanned : goal.loop-next-smaller-then-scanned
loop-next-smaller-then-scanned c =
    let further = advances c.loop-next.invariant (not-true _ c.if-not-state.true) c.loop-next-test.true c.scan-scanned.result c.scan-scanned.ensures in
    omega (arith, further, c.loop-next-test.true)

pub loop-next-preserved-then-scanned : goal.loop-next-preserved-then-scanned
loop-next-preserved-then-scanned c =
    line_ended c.loop-next.invariant (not-true _ c.if-not-state.true) c.loop-next-test.true c.scan-scanned.result c.scan-scanned.ensures
    c.if-scanned.true c.end_line-state.ensures

pub loop-next-smaller : goal.loop-next-smaller
loop-next-smaller c =
    let further = advances c.loop-next.invariant (not-true _ c.if-not-state.true) c.loop-next-test.true c.scan-scanned.result c.scan-scanned.ensures in
    omega (arith, further, c.loop-next-test.true)

pub loop-next-preserved : goal.loop-next-preserved
loop-next-preserved c =
    line_open c.loop-next.invariant (not-true _ c.if-not-state.true) c.loop-next-test.true c.scan-scanned.result c.scan-scanned.ensures c.if-scanned.false

pub returns-else-not-state : goal.returns-else-not-state
returns-else-not-state c = at_refusal c.loop-next.invariant (not-false _ c.if-not-state.false)

pub returns-after-loop-next : goal.returns-after-loop-next
returns-after-loop-next c = at_end c.loop-next.invariant c.loop-next-test.false
