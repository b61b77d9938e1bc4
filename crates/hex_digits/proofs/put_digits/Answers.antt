-- `hex_digits::put_digits` meets its contract: the digits that are left of the number that is left give what all of them give.
-- Assumes nothing.
use Rattle.std.proofs.Common.{arith}
use Rattle.hex_digits.proofs.Digits.{no_digit_put, next_left_put, all_digits_put}
use Rattle.hex_digits.proofs.put_digits.Goals as goal

pub loop-left-init : goal.loop-left-init
loop-left-init c = no_digit_put _ _ _ _

pub loop-left-preserved : goal.loop-left-preserved
loop-left-preserved c = rw c.character.ensures (next_left_put c.loop-left.invariant c.loop-left-test.true)

pub returns : goal.returns
returns c = all_digits_put c.loop-left.invariant (omega (arith, c.loop-left-test.false))
