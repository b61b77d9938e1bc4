-- A range of the input as a list of bits: its length, its first bit, what is left after some of them, and that each is 0 or 1.
-- Assumes nothing.
use mathlib.Core.Path.{◌≡◌, ◌∙◌, refl, ap, subst}
use mathlib.Core.Bool.{Bool, true, ◌&&◌}
use mathlib.Core.List.{List, [], ◌∷◌, ◌++◌}
use Prim.Native.Nat.{ℕ, zero, suc, ◌+◌, ◌-◌, ◌<◌, ◌≤◌}
use native.Mathlib.Omega.{arith}
use lib.Dec.{T, ltb, lt→ltb}
use lib.ListN.{length, take, drop}
use lib.Seq.{take_all}
use Rattle.bits.specs.Bits.{bit_of, bits_of}
use Rattle.bits.proofs.Truth.{and_both, and_left, and_right}

module _ (input : List ℕ) where
  pub length_bits : (first count : ℕ) → length (bits_of input first count) ≡ count
  length_bits first zero = refl
  length_bits first (suc count) = ap suc (length_bits (first + 1) count)

  pub first_bit : (first count : ℕ) → 0 < count → bits_of input first count ≡ bit_of input first ∷ bits_of input (first + 1) (count - 1)
  first_bit first zero h = absurd (omega arith)
  first_bit first (suc count) h = let e : suc count - 1 ≡ count = omega arith in rw e

  pub drop_bits : (first count k : ℕ) → k ≤ count → drop k (bits_of input first count) ≡ bits_of input (first + k) (count - k)
  drop_bits first count zero h =
      let e : first + 0 ≡ first = omega arith in
      let f : count - 0 ≡ count = omega arith in
      rw (e, f)
  drop_bits first zero (suc k) h = absurd (omega arith)
  drop_bits first (suc count) (suc k) h =
      let e : first + 1 + k ≡ first + suc k = omega arith in
      let f : suc count - suc k ≡ count - k = omega arith in
      rw f (drop_bits (first + 1) count k (omega arith) ∙ ap (λ p. bits_of input p (count - k)) e)

  pub bits_over : (first : ℕ) {count : ℕ} → count ≤ 0 → bits_of input first count ≡ []
  bits_over first {count} h = let k : count ≡ 0 = omega arith in rw k

-- Each number is 0 or 1.
abbrev pub binary : List ℕ → Bool
binary [] = true
binary (bit ∷ bits) = ltb bit 2 && binary bits

pub binary_append : (xs ys : List ℕ) → T (binary xs) → T (binary ys) → T (binary (xs ++ ys))
binary_append [] ys b c = c
binary_append (x ∷ xs) ys b c = and_both (ltb x 2) (binary (xs ++ ys)) (and_left (ltb x 2) _ b) (binary_append xs ys (and_right (ltb x 2) _ b) c)

pub binary_ahead : (xs ys : List ℕ) → T (binary (xs ++ ys)) → T (binary xs)
binary_ahead [] ys b = tt
binary_ahead (x ∷ xs) ys b = and_both (ltb x 2) (binary xs) (and_left (ltb x 2) _ b) (binary_ahead xs ys (and_right (ltb x 2) _ b))

pub binary_behind : (xs ys : List ℕ) → T (binary (xs ++ ys)) → T (binary ys)
binary_behind [] ys b = b
binary_behind (x ∷ xs) ys b = binary_behind xs ys (and_right (ltb x 2) (binary (xs ++ ys)) b)

pub bits_binary : (input : List ℕ) (n count first : ℕ) → T (binary (take n (bits_of input first count)))
bits_binary input zero count first = tt
bits_binary input (suc n) zero first = tt
bits_binary input (suc n) (suc count) first =
    and_both (ltb (bit_of input first) 2) _ (lt→ltb (bit_of input first) 2 (omega arith)) (bits_binary input n count (first + 1))

pub bits_all : (input : List ℕ) (first count : ℕ) → T (binary (bits_of input first count))
bits_all input first count =
    let long = length_bits input first count in
    subst (λ (l : List ℕ). T (binary l)) (take_all count (bits_of input first count) (omega arith)) (bits_binary input count count first)
