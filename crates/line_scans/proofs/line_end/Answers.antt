-- `line_end` meets its contract: from each place passed, the characters ahead of the line feed end at the same place.
-- Assumes nothing.
use native.Mathlib.Omega.{arith}
use Rattle.line_meanings.proofs.Blocks.{ahead_none, ahead_more, ahead_end}
use Rattle.line_scans.proofs.line_end.Goals as goal

pub loop-end-preserved : goal.loop-end-preserved
loop-end-preserved c = omega (arith, ahead_more c.args.block.now c.loop-end.end c.loop-end-test.true c.if-block-end-eq-LINE_FEED.false)

pub returns-then-block-end-eq-LINE_FEED : goal.returns-then-block-end-eq-LINE_FEED
returns-then-block-end-eq-LINE_FEED c = omega (arith, ahead_none c.args.block.now c.loop-end.end c.loop-end-test.true c.if-block-end-eq-LINE_FEED.true)

pub returns : goal.returns
returns c = omega (arith, ahead_end c.args.block.now c.loop-end.end c.loop-end-test.false)
