-- `put_scalars` puts its numbers one after the other.
-- Assumes nothing.
use mathlib.Core.Path.{refl}
use Prim.Native.Nat.{◌-◌}
use borrow.Author.Rules.{rules}
use Rattle.image_words.proofs.WriteLoop.{initially, again_first, over}
use Rattle.image_words.proofs.put_scalars.Goals as goal

pub loop-n-init : goal.loop-n-init
loop-n-init c = initially _ _ _

pub loop-n-preserved : goal.loop-n-preserved
loop-n-preserved c = again_first c.loop-n.invariant (search rules) refl c.loop-n-test.true _ refl

pub returns : goal.returns
returns c = over c.loop-n.invariant (search rules) c.loop-n-test.false
