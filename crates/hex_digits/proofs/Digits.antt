-- Numbers in digits: how many there are, and the lowest apart from the others; and the invariant of the loop that puts them, the lowest first.
-- Assumes nothing.
use mathlib.Core.List.{List, [], ◌∷◌, ◌++◌}
use mathlib.Core.Path.{◌≡◌, refl, ap, subst, ◌∙◌}
use Prim.Native.Nat.{ℕ, zero, suc, ◌+◌, ◌-◌, ◌/◌, ◌%◌, ◌≤◌, ◌<◌}
use native.Mathlib.Nat.{div-one, pow-succ', div-div-eq-div-mul}
use native.Mathlib.Omega.{arith}
use lib.ListN.{length, set, length-set}
use lib.Seq.{sets}
use Rattle.output.proofs.Pieces.{sets_last}
use Rattle.hex_digits.specs.Digits.{character_of, characters_of}

pub digits_length : (n width : ℕ) → length (characters_of n width) ≡ width
unfolding characters_of
digits_length n zero = refl
digits_length n (suc width) = ap suc (digits_length n width)

pub lowest_digit : (n width : ℕ) → characters_of n (suc width) ≡ characters_of (n / 16) width ++ (character_of (n % 16) ∷ [])
unfolding characters_of
lowest_digit n zero = rw div-one
lowest_digit n (suc width) = rw (pow-succ', ← div-div-eq-div-mul, lowest_digit n width)

-- The digits that are left of the number that is left, put ahead of the place, give what the whole number gives.
pub record LowDigitsPut (out₀ : List ℕ) (at number width : ℕ) (out : List ℕ) (place quotient : ℕ) : Type 0 where
  pub low : at ≤ place
  pub high : place ≤ at + width
  pub same_length : length out ≡ length out₀
  pub bytes : sets out at (characters_of quotient (place - at)) ≡ sets out₀ at (characters_of number width)

pub no_digit_put : (out : List ℕ) (at number width : ℕ) → LowDigitsPut out at number width out (at + width) number
no_digit_put out at number width =
    let e : at + width - at ≡ width = omega arith in
    record { low = omega arith; high = omega arith; same_length = refl; bytes = rw e }

module _ {out₀ : List ℕ} {at number width : ℕ} {out : List ℕ} {place quotient : ℕ} (g : LowDigitsPut out₀ at number width out place quotient) where
  pub next_digit_put : at < place → LowDigitsPut out₀ at number width (set out (place - 1) (character_of (quotient % 16))) (place - 1) (quotient / 16)
  next_digit_put more =
      let k : place - at ≡ suc (place - 1 - at) = omega arith in
      let higher = characters_of (quotient / 16) (place - 1 - at) in
      let e : place - 1 ≡ at + length higher = omega (arith, digits_length (quotient / 16) (place - 1 - at)) in
      record {
        low = omega arith;
        high = omega (arith, g.high);
        same_length = length-set out _ _ ∙ g.same_length;
        bytes =
            ap (λ (n : ℕ). sets (set out n (character_of (quotient % 16))) at higher) e
            ∙ sets_last higher out at (character_of (quotient % 16))
            ∙ (rw (← lowest_digit quotient (place - 1 - at), ← k) g.bytes);
      }

  pub all_digits_put : place ≤ at → out ≡ sets out₀ at (characters_of number width)
  unfolding characters_of
  all_digits_put h = let k : place - at ≡ 0 = omega arith in rw k at g.bytes

-- The same by the count of the digits that are left.
pub next_left_put : {out₀ : List ℕ} {at number width : ℕ} {out : List ℕ} {left quotient : ℕ} → LowDigitsPut out₀ at number width out (at + left) quotient → 0 < left
    → LowDigitsPut out₀ at number width (set out (at + (left - 1)) (character_of (quotient % 16))) (at + (left - 1)) (quotient / 16)
next_left_put {out₀} {at} {number} {width} {out} {left} {quotient} g more =
    let e : at + left - 1 ≡ at + (left - 1) = omega arith in
    subst (λ (place : ℕ). LowDigitsPut out₀ at number width (set out place (character_of (quotient % 16))) place (quotient / 16)) e
    (next_digit_put g (omega arith))
