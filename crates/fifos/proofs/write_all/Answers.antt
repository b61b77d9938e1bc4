-- `write_all` does what `write_of 16 0` says: what the FIFOs from n on are left to do gives what all 16 do.
-- Assumes nothing.
use mathlib.Core.Path.{refl}
use Prim.Native.Nat.{◌-◌}
use lib.ListN.{length-set}
use Rattle.fifos.proofs.WriteLoop.{kept, put, again, over}
use Rattle.fifos.proofs.write_all.Goals as goal
use Rattle.fifos.proofs.write_all.Goals.{then-feen-n-eq1, else-feen-n-eq1}

pub returns : goal.returns
returns c = over c.loop-n.invariant c.loop-n-test.false

pub loop-n-preserved : goal.loop-n-preserved
loop-n-preserved c =
    let a = c.args in
    let l = c.loop-n in
    let more = c.loop-n-test.true in
    elim c.if-feen-n-eq1.branch [
      | then-feen-n-eq1 w ↦
          rw (w.store-is, w.p-is, w.moved_on.ensures)
          (again l.invariant more _ _ (length-set l.store _ _) (length-set l.p _ _)
          (put a.feen a.word l.store l.p l.n w.if-feen-n-eq1.true))
      | else-feen-n-eq1 w ↦ rw (w.store-is, w.p-is) (again l.invariant more _ _ refl refl (kept a.feen a.word l.store l.p l.n w.if-feen-n-eq1.false))
    ]
