-- Numbers in decimal digits, computed.
-- Assumes nothing.
use mathlib.Core.Path.{◌≡◌, refl}
use Rattle.output.specs.Ascii.{ascii}
use Rattle.decimal_digits.specs.Decimal.{decimal_within, decimal_of}

-- the fewest digits
pub zero_digits : decimal_of 0 ≡ ascii "0"
unfolding decimal_within
zero_digits = refl

pub nine_digits : decimal_of 9 ≡ ascii "9"
unfolding decimal_within
nine_digits = refl

pub ten_digits : decimal_of 10 ≡ ascii "10"
unfolding decimal_within
ten_digits = refl

pub largest_digits : decimal_of 18446744073709551615 ≡ ascii "18446744073709551615"
unfolding decimal_within
largest_digits = refl
