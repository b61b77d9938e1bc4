-- What bits leave behind a number: a whole group's byte has its bits, and so many bits leave exactly the numbers below two to their power.
-- Assumes nothing.
use mathlib.Core.Bool.{◌||◌}
use mathlib.Core.List.{List, [], ◌∷◌, ◌++◌}
use mathlib.Core.Logic.{⊎_elim}
use mathlib.Core.Path.{◌≡◌, ◌∙◌, refl, sym, ap}
use Prim.Native.Nat.{ℕ, zero, suc, ◌+◌, ◌*◌, ◌/◌, ◌%◌, ◌^◌, ◌<◌, ◌≤◌}
use native.Mathlib.Nat.{one-le-pow, pow-suc, div-div-eq-div-mul, div-lt_iff_lt-mul}
use native.Mathlib.Omega.{arith}
use lib.Dec.{T, eqb, ltb, ltb→lt, lt→ltb}
use lib.ListN.{length}
use lib.Pow.{pow_mono}
use borrow.Author.Tests.{eq-eqb, ne_eqb, eqb-true, eqb-false, ltb-true, ltb-false}
use Rattle.bits.proofs.Truth.{cases, or_left, or_right, and_left, and_right}
use Rattle.bits.proofs.BitRanges.{binary}
use Rattle.bits.proofs.Shift.{shifted_grows}
use Rattle.groups.specs.Received.{held_with, bits_in, left_by, some_bits, left_by_some}

-- One digit less.
halved : (v n : ℕ) → v / 2 ^ suc n ≡ v / 2 ^ n / 2
halved v n = ap (λ p. v / p) (pow-suc 2 n) ∙ sym (div-div-eq-div-mul v (2 ^ n) 2)

-- A number of so many bits with one bit more, where it stays within the byte.
record Grown (held k bit : ℕ) : Type 0 where
  is : held_with held bit ≡ held * 2 + bit
  fits : held * 2 + bit < 2 ^ suc k

grown : (held k n bit : ℕ) → held < 2 ^ k → k + suc n ≤ 8 → bit < 2 → Grown held k bit
grown held k n bit fits room low =
    let more : held * 2 + bit < 2 ^ suc k = rw (pow-suc 2 k) (omega arith) in
    let byte : 2 ^ suc k ≤ 2 ^ 8 = let l : suc k ≤ 8 = omega arith in pow_mono l in
    record { is = omega arith; fits = more }

-- Behind the bits stand what was held, and the bits.
left_top : (bits : List ℕ) (held k : ℕ) → held < 2 ^ k → k + length bits ≤ 8 → T (binary bits) → left_by held bits / 2 ^ length bits ≡ held
left_top [] held k fits room b = omega arith
left_top (bit ∷ bits) held k fits room b =
    let g = grown held k (length bits) bit fits room (ltb→lt bit 2 (and_left (ltb bit 2) _ b)) in
    let low = ltb→lt bit 2 (and_left (ltb bit 2) (binary bits) b) in
    let rest = left_top bits (held * 2 + bit) (suc k) g.fits (omega arith) (and_right (ltb bit 2) _ b) in
    rw (g.is, halved, rest) (omega arith)

abbrev digits : ℕ → ℕ → List ℕ
digits zero v = []
digits (suc n) v = v / 2 ^ n % 2 ∷ digits n v

left_digits : (bits : List ℕ) (held k : ℕ) → held < 2 ^ k → k + length bits ≤ 8 → T (binary bits) → digits (length bits) (left_by held bits) ≡ bits
left_digits [] held k fits room b = refl
left_digits (bit ∷ bits) held k fits room b =
    let low = ltb→lt bit 2 (and_left (ltb bit 2) (binary bits) b) in
    let g = grown held k (length bits) bit fits room low in
    let rest = and_right (ltb bit 2) (binary bits) b in
    let top = left_top bits (held * 2 + bit) (suc k) g.fits (omega arith) rest in
    let first : left_by (held * 2 + bit) bits / 2 ^ length bits % 2 ≡ bit = ap (λ q. q % 2) top ∙ omega arith in
    let others = left_digits bits (held * 2 + bit) (suc k) g.fits (omega arith) rest in
    rw g.is (λ i. first i ∷ others i)

-- A whole group's byte has the group's bits.
pub bits_left : (bits : List ℕ) → length bits ≡ 8 → T (binary bits) → bits_in (left_by 0 bits) ≡ bits
bits_left bits whole b = rw whole at (left_digits bits 0 0 (omega arith) (omega arith) b)

-- The last bit is shifted in last.
pub left_last : (bits : List ℕ) (held bit : ℕ) → left_by held (bits ++ (bit ∷ [])) ≡ held_with (left_by held bits) bit
left_last [] held bit = refl
left_last (next ∷ bits) held bit = left_last bits (held_with held next) bit

-- Some bits leave a number exactly where what was held stands ahead of that many digits of it.
same : (held number : ℕ) → eqb held number ≡ eqb (number / 1) held
same held number =
    ⊎_elim (λ t. let e = eqb-true held number t in rw t (sym (eq-eqb (number / 1) held (omega arith))))
    (λ f. let n = eqb-false held number f in rw f (sym (ne_eqb (number / 1) held (λ e. n (omega arith)))))
    (cases (eqb held number))

two_ways : (q held : ℕ) → (eqb q (held * 2 + 0) || eqb q (held * 2 + 1)) ≡ eqb (q / 2) held
two_ways q held =
    ⊎_elim
    (λ t.
    let e = eqb-true (q / 2) held t in
    rw t
    (⊎_elim (or_left (eqb q (held * 2 + 0)) (eqb q (held * 2 + 1)))
    (λ u. let n = eqb-false q (held * 2 + 0) u in or_right (eqb q (held * 2 + 0)) (eqb q (held * 2 + 1)) (eq-eqb q (held * 2 + 1) (omega arith)))
    (cases (eqb q (held * 2 + 0)))))
    (λ f.
    let n = eqb-false (q / 2) held f in
    rw (f, ne_eqb q (held * 2 + 0) (λ e. n (omega arith)), ne_eqb q (held * 2 + 1) (λ e. n (omega arith))))
    (cases (eqb (q / 2) held))

some_left : (n held k number : ℕ) → held < 2 ^ k → k + n ≤ 8 → some_bits n (λ bits. eqb (left_by held bits) number) ≡ eqb (number / 2 ^ n) held
some_left zero held k number fits room = same held number
some_left (suc n) held k number fits room =
    let without = grown held k n 0 fits room (omega arith) in
    let with = grown held k n 1 fits room (omega arith) in
    rw (
      without.is,
      with.is,
      halved,
      some_left n (held * 2 + 0) (suc k) number without.fits (omega arith),
      some_left n (held * 2 + 1) (suc k) number with.fits (omega arith),
    )
    (two_ways (number / 2 ^ n) held)

-- So many bits leave the numbers below two to their power, and no other.
no_digit_above : (n group : ℕ) → eqb (group / 2 ^ n) 0 ≡ ltb group (2 ^ n)
no_digit_above n group =
    let power : 0 < 2 ^ n = one-le-pow n 2 (omega arith) in
    let low : group / 2 ^ n < 1 → group < 1 * 2 ^ n = (div-lt_iff_lt-mul power).0 in
    let none : group < 1 * 2 ^ n → group / 2 ^ n < 1 = (div-lt_iff_lt-mul power).1 in
    ⊎_elim (λ t. let l = none (omega (arith, ltb-true group (2 ^ n) t)) in rw t (eq-eqb (group / 2 ^ n) 0 (omega arith)))
    (λ f. let h = ltb-false group (2 ^ n) f in rw f (ne_eqb (group / 2 ^ n) 0 (λ e. let l = low (omega arith) in omega arith)))
    (cases (ltb group (2 ^ n)))

pub left_below : (n group : ℕ) → n ≤ 8 → left_by_some n group ≡ ltb group (2 ^ n)
left_below n group room = some_left n 0 0 group (omega arith) (omega arith) ∙ no_digit_above n group

-- One bit more.
pub left_more : (n group bit : ℕ) → n < 8 → bit < 2 → T (left_by_some n group) → T (left_by_some (n + 1) (held_with group bit))
left_more n group bit room low t =
    rw (left_below (n + 1) (held_with group bit) (omega arith))
    (lt→ltb (held_with group bit) (2 ^ (n + 1)) (shifted_grows group bit low 8 n (ltb→lt group (2 ^ n) (rw (left_below n group (omega arith)) at t))))
