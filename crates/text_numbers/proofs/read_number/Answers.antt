-- `read_number` meets its contract: what is left of the word stands for the number of all of it.
-- Assumes nothing.
use mathlib.Core.Path.{◌∙◌, sym}
use native.Mathlib.Omega.{arith}
use lib.ListN.{length}
use borrow.Author.Tests.{eqb-true, eqb-false}
use Rattle.text_numbers.proofs.Numbers.{number_first, number_none, number_wrong, number_next, number_done}
use Rattle.text_numbers.proofs.read_number.Goals as goal

pub returns-then-is_empty : goal.returns-then-is_empty
returns-then-is_empty c = number_none _ _ (eqb-true _ _ (sym c.is_empty.ensures ∙ c.if-is_empty.true))

pub loop-character-init : goal.loop-character-init
loop-character-init c =
    let some = eqb-false (length c.args.word.now) 0 (sym c.is_empty.ensures ∙ c.if-is_empty.false) in
    number_first _ _ (omega (arith, some))

pub returns-in_err-next : goal.returns-in_err-next
returns-in_err-next c =
    c.from_residual.ensures
    ∙ number_wrong c.loop-character.invariant c.loop-character-test.true (omega (arith, c.in_err-next.ensures.0, c.requires))

pub returns-then-base-next : goal.returns-then-base-next
returns-then-base-next c = number_wrong c.loop-character.invariant c.loop-character-test.true (omega (arith, c.in_ok-next.ensures.0))

pub loop-character-preserved : goal.loop-character-preserved
loop-character-preserved c =
    let d = c.in_ok-next.ensures.0 in
    rw (c.with_digit-value.ensures, d) (number_next c.loop-character.invariant c.loop-character-test.true (omega (arith, d, c.if-base-next.false)))

pub returns : goal.returns
returns c = number_done c.loop-character.invariant c.loop-character-test.false
