-- `same` compares word by word: what is left of the two lists decides as the whole does.
-- Assumes nothing.
use Prim.Native.Nat.{◌-◌}
use Rattle.image_words.proofs.CompareLoop.{initially, differ, again, over}
use Rattle.image_words.proofs.same.Goals as goal

pub loop-k-init : goal.loop-k-init
loop-k-init c = initially _ _

pub returns-then-a-k : goal.returns-then-a-k
returns-then-a-k c = differ c.loop-k.invariant c.requires c.loop-k-test.true c.if-a-k.true

pub loop-k-preserved : goal.loop-k-preserved
loop-k-preserved c = again c.loop-k.invariant c.requires c.loop-k-test.true c.if-a-k.false

pub returns : goal.returns
returns c = over c.loop-k.invariant c.requires c.loop-k-test.false
