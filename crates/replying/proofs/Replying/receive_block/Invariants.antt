-- `Replying::receive_block` goes through a block line by line.
-- Assumes nothing.
use Prim.Native.Nat.{◌-◌}
use lib.ListN.{length}
use Rattle.replying.specs.Replying.{reply_run}
use Rattle.replying.proofs.Parts.{Invariant}
use Rattle.replying.proofs.Replying.receive_block.Given as goal

abbrev pub invariant-loop-next : goal.invariant-loop-next
invariant-loop-next l = Invariant (reply_run l.initial.state l.initial.buffer) l.input l.next (reply_run l.state l.buffer)

abbrev pub decreases-loop-next : goal.decreases-loop-next
decreases-loop-next l = length l.input - l.next
