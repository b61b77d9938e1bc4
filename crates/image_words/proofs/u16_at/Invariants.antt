-- `u16_at` puts the words' low parts one after the other into an array that they fill.
-- Assumes nothing.
use Prim.Native.Nat.{◌-◌}
use Rattle.image_fields.specs.Fields.{bits}
use Rattle.image_words.proofs.ReadLoop.{Invariant}
use Rattle.image_words.proofs.u16_at.Given as goal

abbrev pub invariant-loop-n : goal.invariant-loop-n
invariant-loop-n l = Invariant (bits 16) 16 l.at l.image l.numbers l.n

abbrev pub decreases-loop-n : goal.decreases-loop-n
decreases-loop-n l = 16 - l.n
