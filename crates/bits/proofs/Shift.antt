-- A register with a bit shifted in at its low end: what the code's shift and mask give, and how its number grows.
-- Assumes nothing.
use mathlib.Core.Path.{◌≡◌, ◌∙◌}
use Prim.Native.Nat.{ℕ, ◌+◌, ◌*◌, ◌-◌, ◌%◌, ◌^◌, ◌<◌}
use native.Mathlib.Nat.{mod-le, mod-lt, mod-mod_of_dvd, dvd_of_mod-eq-zero, one-le-pow, pow-suc}
use native.Mathlib.Numerals.{add-one}
use native.Mathlib.Omega.{arith}
use lib.Bits.{bit_and, bit_or, and_mask, or_shifted}
use Rattle.bits.specs.Bits.{shifted}

-- The shift of a byte, without its lost bit.
halved : (v : ℕ) → (v * 2 ^ 1) % 2 ^ 8 ≡ v % 128 * 2 ^ 1
halved v = omega arith

-- A register's number fits its width.
pub shifted_fits : (width v b : ℕ) → shifted width v b < 2 ^ width
shifted_fits width v b = mod-lt (v * 2 + b) (one-le-pow width 2 (omega arith))

-- A number of so many bits is one of one bit more.
pub fits_wider : (v count : ℕ) → v < 2 ^ count → v < 2 ^ (count + 1)
fits_wider v count l = rw (add-one, pow-suc) (omega arith)

module _ (v b : ℕ) (h : b < 2) where
  -- A byte shifted left by one with a bit at its low end.
  pub joined : bit_or ((v * 2 ^ 1) % 2 ^ 8) b ≡ shifted 8 v b
  joined = rw (halved v) (or_shifted (v % 128) 1 b h ∙ omega arith)

  -- The same, masked to a width that divides the byte's.
  pub masked : (width : ℕ) → 2 ^ 8 % 2 ^ width ≡ 0 → bit_and (bit_or ((v * 2 ^ 1) % 2 ^ 8) b) (2 ^ width - 1) ≡ shifted width v b
  masked width d =
      rw joined
      (and_mask (shifted 8 v b) width ∙ mod-mod_of_dvd (2 ^ width) (v * 2 + b) (dvd_of_mod-eq-zero (2 ^ width) d))

  -- The same at 32 bits, as the code has it.
  pub doubled : v % 2147483648 * 2 + b ≡ shifted 32 v b
  doubled = omega arith

  -- With a bit shifted in, a number of so many bits is one of one bit more.
  pub shifted_grows : (width count : ℕ) → v < 2 ^ count → shifted width v b < 2 ^ (count + 1)
  shifted_grows width count l = rw (add-one, pow-suc) (omega (arith, mod-le (v * 2 + b) (2 ^ width)))
