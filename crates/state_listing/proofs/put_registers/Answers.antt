-- `put_registers` meets its contract: the registers that are left, put at the present place, give what all 16 give.
-- Assumes nothing.
use mathlib.Core.Path.{sym}
use Prim.Native.Nat.{◌-◌}
use native.Mathlib.Omega.{arith}
use Rattle.output.proofs.Pieces.{none_put, all_put}
use Rattle.state_listing.specs.State.{address_count, register_text}
use Rattle.state_listing.proofs.State.{text_put, text_empty, texts_all_put}
use Rattle.state_listing.proofs.put_registers.Goals as goal

pub loop-i-init : goal.loop-i-init
loop-i-init c = (omega arith, none_put _ _ _ c.requires)

pub loop-i-preserved-then-not-exists_at : goal.loop-i-preserved-then-not-exists_at
loop-i-preserved-then-not-exists_at c =
    let l = c.loop-i in
    let missing = sym c.if-not-exists_at.ensures in
    (omega arith, text_empty (register_text c.args.plan c.args.model) address_count l.i c.loop-i-test.true l.invariant.1 (simp missing))

pub loop-i-preserved : goal.loop-i-preserved
loop-i-preserved c =
    let l = c.loop-i in
    let there = sym c.if-not-exists_at.ensures in
    let line = rw c.read.ensures at c.register_line-place.ensures in (
      omega (arith, c.loop-i-test.true),
      text_put (register_text c.args.plan c.args.model) address_count l.i c.loop-i-test.true l.invariant.1 _ (simp there) _ _ line,
    )

pub returns : goal.returns
returns c =
    let a = c.args in
    all_put c.loop-i.invariant.1 (texts_all_put (register_text a.plan a.model) address_count c.loop-i.i c.loop-i-test.false)
