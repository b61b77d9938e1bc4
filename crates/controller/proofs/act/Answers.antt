-- `act` does what `act_of` says: by the request, what the function for it ensures. A Fast that fits has a kind within a byte.
-- Assumes nothing.
use borrow.Author.Tests.{ltb-true}
use Rattle.controller.specs.Commands.{act_of}
use Rattle.controller.proofs.act.Goals as goal

pub fast-requires : goal.fast-requires
fast-requires c = ltb-true _ _ (rw c.in-Fast.is at c.requires.1)

pub slow-requires : goal.slow-requires
slow-requires c =
    let s = c in
    (s.requires.0, rw c.in-Slow.is at s.requires.1)

pub returns-in-Nothing : goal.returns-in-Nothing
unfolding act_of
returns-in-Nothing c = simp (c.in-Nothing.is, c.silent.ensures)

pub returns-in-Lv1 : goal.returns-in-Lv1
unfolding act_of
returns-in-Lv1 c = simp (c.in-Lv1.is, c.lv1.ensures)

pub returns-in-Fast : goal.returns-in-Fast
unfolding act_of
returns-in-Fast c = simp (c.in-Fast.is, c.fast.ensures)

pub returns-in-BadFast : goal.returns-in-BadFast
unfolding act_of
returns-in-BadFast c = simp (c.in-BadFast.is, c.bad_fast.ensures)

pub returns-in-Slow : goal.returns-in-Slow
unfolding act_of
returns-in-Slow c =
    let did = c in
    simp (did.in-Slow.is, did.slow.ensures)
