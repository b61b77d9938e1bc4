-- `hex_digits::put_digits` meets its contract: the digits that are left of the number that is left give what all of them give.
-- Assumes nothing.
use Rattle.std.proofs.Common.{◌+◌}
use Rattle.hex_digits.proofs.Digits.{LowDigitsPut}
use Rattle.hex_digits.proofs.put_digits.Given as goal

abbrev pub invariant-loop-left : goal.invariant-loop-left
invariant-loop-left l = LowDigitsPut l.initial.out l.at l.number l.width l.out (l.at + l.left) l.quotient
