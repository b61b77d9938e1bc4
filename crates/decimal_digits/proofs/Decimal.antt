-- The digits that `io::decimal` makes are a number's decimal digits.
-- Assumes nothing.
use mathlib.Core.List.{List}
use mathlib.Core.Logic.{⊎_elim}
use mathlib.Core.Path.{◌≡◌, refl}
use Prim.Native.Nat.{ℕ, zero, suc, ◌-◌, ◌/◌, ◌%◌, ◌^◌, ◌≤◌, ◌<◌}
use native.Mathlib.Nat.{one-le-pow, pow-le-pow_right, mod-eq_of_lt}
use native.Mathlib.Omega.{arith}
use lib.Dec.{ltb, leb}
use lib.ListN.{length, length-append}
use borrow.Author.Tests.{ltb-true, ltb-false, leb-true, leb-false, lt-ltb}
use Rattle.bits.proofs.Truth.{choice, cases}
use Rattle.io.specs.Digits.{hex_digit_ascii, last_digits, IsDigitCount}
use Rattle.decimal_digits.specs.Decimal.{decimal_digit, decimal_within, decimal_of}

digit_glyph : (d : ℕ) → d < 10 → hex_digit_ascii d ≡ decimal_digit d
digit_glyph d h = simp (lt-ltb d 10 h)

less_one : (n : ℕ) → suc n - 1 ≡ n
less_one n = omega arith

-- the fewest digits of a number of at least ten are one more than those of its tenth
fewest_tenth : (n k : ℕ) → 10 ≤ n → IsDigitCount 10 1 n (suc k) → IsDigitCount 10 1 (n / 10) k
fewest_tenth n zero h f = absurd (omega arith)
fewest_tenth n (suc k) h f = (omega arith, omega arith, λ more. rw less_one (let most = rw less_one at (f.2 (omega arith)) in omega arith))

-- the fewest digits of a number below ten are one
fewest_one : (n k : ℕ) → n < 10 → IsDigitCount 10 1 n (suc k) → k ≡ 0
fewest_one n zero h f = refl
fewest_one n (suc k) h f = let most = rw less_one at (f.2 (omega arith)) in absurd (omega (arith, one-le-pow k 10 (omega arith)))

same_digits : (most n k : ℕ) → k ≤ most → IsDigitCount 10 1 n k → last_digits 10 k n ≡ decimal_within most n
unfolding decimal_within
same_digits most n zero h f = absurd (omega arith)
same_digits zero n (suc k) h f = absurd (omega arith)
same_digits (suc most) n (suc k) h f =
    choice (λ (l : List ℕ). last_digits 10 (suc k) n ≡ l) (ltb n 10)
    (λ t. let small : n < 10 = ltb-true n 10 t in rw (fewest_one n k small f, mod-eq_of_lt small, digit_glyph n small))
    (λ t.
    let large : 10 ≤ n = ltb-false n 10 t in
    rw (same_digits most (n / 10) k (omega arith) (fewest_tenth n k large f), digit_glyph (n % 10) (omega arith)))

-- a number below 10 ^ 20 has at most 20 digits
fewest_short : (n k : ℕ) → n < 10 ^ 20 → IsDigitCount 10 1 n k → k ≤ 20
fewest_short n k h f =
    ⊎_elim (leb-true k 20)
    (λ t.
    let long : 20 < k = leb-false k 20 t in
    let more : 10 ^ 20 ≤ 10 ^ (k - 1) = pow-le-pow_right {n = 10} (omega arith) {i = 20} {j = k - 1} (omega arith) in
    absurd (omega (arith, f.2 (omega arith))))
    (cases (leb k 20))

pub decimal_digits_lem : (n k : ℕ) → n < 10 ^ 20 → IsDigitCount 10 1 n k → last_digits 10 k n ≡ decimal_of n
decimal_digits_lem n k h f = same_digits 20 n k (fewest_short n k h f) f

decimal_length : (most n : ℕ) → length (decimal_within most n) ≤ most
unfolding decimal_within
decimal_length zero n = omega arith
decimal_length (suc most) n =
    choice (λ (l : List ℕ). length l ≤ suc most) (ltb n 10) (λ _. omega arith) (λ _. rw length-append (omega (arith, decimal_length most (n / 10))))

pub decimal_short : (n : ℕ) → length (decimal_of n) ≤ 20
decimal_short n = decimal_length 20 n
