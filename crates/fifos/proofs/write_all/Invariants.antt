-- `write_all` does what `write_of 16 0` says: what the FIFOs from n on are left to do gives what all 16 do.
-- Assumes nothing.
use Prim.Native.Nat.{◌-◌}
use Rattle.fifos.proofs.WriteLoop.{Invariant}
use Rattle.fifos.proofs.write_all.Given as goal

abbrev pub invariant-loop-n : goal.invariant-loop-n
invariant-loop-n l = Invariant l.feen l.word l.initial.store l.initial.p l.store l.p l.n

abbrev pub decreases-loop-n : goal.decreases-loop-n
decreases-loop-n l = 16 - l.n
