-- `Judging::judge_block` goes through a block line by line.
-- Assumes nothing.
use Rattle.std.proofs.Common.{◌-◌, length}
use Rattle.judging.proofs.BlockLoop.{Invariant}
use Rattle.judging.proofs.Judging.judge_block.Given as goal

abbrev pub invariant-loop-next : goal.invariant-loop-next
invariant-loop-next l = Invariant l.initial.state l.input l.next l.state

abbrev pub decreases-loop-next : goal.decreases-loop-next
decreases-loop-next l = length l.input - l.next
