-- `u8_at` puts the words' low parts one after the other into an array that they fill.
-- Assumes nothing.
use Prim.Native.Nat.{◌-◌}
use Rattle.image_words.proofs.ReadLoop.{initially, again, over}
use Rattle.image_words.proofs.u8_at.Goals as goal

pub loop-n-init : goal.loop-n-init
loop-n-init c = initially _ _ _ _

pub loop-n-preserved : goal.loop-n-preserved
loop-n-preserved c = again c.loop-n.invariant c.loop-n-test.true

pub returns : goal.returns
returns c = over c.loop-n.invariant c.loop-n-test.false
