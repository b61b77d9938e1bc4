-- `Progress::check` goes through a range bit by bit: a turn, and the end.
-- Assumes nothing.
use native.Mathlib.Omega.{arith}
use Rattle.acceptance.proofs.CheckLoop.{again, over, refused}
use Rattle.acceptance.proofs.Progress.check.Goals as goal

pub loop-preserved : goal.loop-preserved
loop-preserved c = again c.loop.invariant _ _ _ c.read.ensures c.step-progress.ensures c.next-at.ensures c.loop-test.true

pub returns-then-progress-ne0 : goal.returns-then-progress-ne0
returns-then-progress-ne0 c = refused c.loop.invariant (omega arith) c.if-progress-ne0.true

pub returns : goal.returns
returns c = over c.loop.invariant (omega arith)
