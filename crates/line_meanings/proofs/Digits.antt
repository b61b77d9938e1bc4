-- What is known of a digit's character.
-- Assumes nothing.
use mathlib.Core.Bool.{true}
use mathlib.Core.Logic.{⊎_elim}
use mathlib.Core.Path.{◌≡◌}
use Prim.Native.Nat.{ℕ, ◌≤◌, ◌<◌}
use native.Mathlib.Omega.{arith}
use lib.Dec.{leb}
use borrow.Author.Tests.{leb-true}
use Rattle.bits.proofs.Truth.{both, either}
use Rattle.line_meanings.specs.Digits.{is_digit}

-- The ranges of the digits, "0" to "9" and "A" to "F".
pub record DigitRange (c : ℕ) : Type 0 where
  pub low : 48 ≤ c
  pub high : c ≤ 70
  pub gap : 57 < c → 65 ≤ c

pub digit_range : (c : ℕ) → is_digit c ≡ true → DigitRange c
digit_range c e =
    ⊎_elim
    (λ n.
    let p = both (leb 48 c) (leb c 57) n in
    let l = leb-true 48 c p.0 in
    let h = leb-true c 57 p.1 in
    record { low = l; high = omega arith; gap = λ m. omega arith })
    (λ n.
    let p = both (leb 65 c) (leb c 70) n in
    let l = leb-true 65 c p.0 in
    let h = leb-true c 70 p.1 in
    record { low = omega arith; high = h; gap = λ m. l })
    (either _ _ e)
