-- `put_pointers` meets its contract: the pointers that are left, put at the present place, give what all 16 give.
-- Assumes nothing.
use mathlib.Core.Path.{refl}
use Prim.Native.Nat.{◌-◌}
use native.Mathlib.Omega.{arith}
use Rattle.registers.specs.Parts.{pointers}
use Rattle.output.proofs.Pieces.{none_put, all_put}
use Rattle.state_listing.specs.State.{fifo_count, pointers_text}
use Rattle.state_listing.proofs.State.{text_put, texts_all_put}
use Rattle.state_listing.proofs.put_pointers.Goals as goal

pub loop-i-init : goal.loop-i-init
loop-i-init c = (omega arith, none_put _ _ _ c.requires)

pub loop-i-preserved : goal.loop-i-preserved
loop-i-preserved c =
    let l = c.loop-i in (
      omega (arith, c.loop-i-test.true),
      text_put (pointers_text c.args.pointers) fifo_count l.i c.loop-i-test.true l.invariant.1 _ refl _ _ c.pointers_line-place.ensures,
    )

pub returns : goal.returns
returns c = all_put c.loop-i.invariant.1 (texts_all_put (pointers_text c.args.pointers) fifo_count c.loop-i.i c.loop-i-test.false)
