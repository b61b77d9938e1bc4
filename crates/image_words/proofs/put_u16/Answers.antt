-- `put_u16` puts its numbers one after the other.
-- Assumes nothing.
use Prim.Native.Nat.{◌-◌}
use borrow.Author.Rules.{rules}
use Rattle.image_words.proofs.WriteLoop.{initially, again, over}
use Rattle.image_words.proofs.put_u16.Goals as goal

pub loop-n-init : goal.loop-n-init
loop-n-init c = initially _ _ _

pub loop-n-preserved : goal.loop-n-preserved
loop-n-preserved c = again c.loop-n.invariant (search rules) c.loop-n-test.true

pub returns : goal.returns
returns c = over c.loop-n.invariant (search rules) c.loop-n-test.false
