-- `put_u16` puts its numbers one after the other.
-- Assumes nothing.
use Prim.Native.Nat.{◌-◌}
use Rattle.image_words.proofs.WriteLoop.{Invariant}
use Rattle.image_words.proofs.put_u16.Given as goal

abbrev pub invariant-loop-n : goal.invariant-loop-n
invariant-loop-n l = Invariant l.initial.image l.at l.numbers l.image l.n

abbrev pub decreases-loop-n : goal.decreases-loop-n
decreases-loop-n l = 16 - l.n
