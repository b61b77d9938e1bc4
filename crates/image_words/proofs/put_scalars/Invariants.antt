-- `put_scalars` puts its numbers one after the other.
-- Assumes nothing.
use Prim.Native.Nat.{◌-◌}
use Rattle.image_fields.specs.Image.{word_place}
use Rattle.image_words.proofs.WriteLoop.{Invariant}
use Rattle.image_words.proofs.put_scalars.Given as goal

abbrev pub invariant-loop-n : goal.invariant-loop-n
invariant-loop-n l = Invariant l.initial.image 0 l.numbers l.image l.n

abbrev pub decreases-loop-n : goal.decreases-loop-n
decreases-loop-n l = word_place "registers" - l.n
