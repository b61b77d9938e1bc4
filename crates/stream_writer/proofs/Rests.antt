-- What is left to be written, taken apart: its first bit or byte, and the rest.
-- Assumes nothing.
use mathlib.Core.List.{List, [], ◌∷◌, ◌++◌}
use mathlib.Core.Path.{◌≡◌, ◌∙◌, refl, sym, ap}
use Prim.Native.Nat.{ℕ, zero, suc, ◌+◌, ◌*◌, ◌-◌, ◌/◌, ◌%◌, ◌^◌, ◌<◌, ◌≤◌}
use native.Mathlib.Nat.{zero-add, suc-add}
use native.Mathlib.Omega.{arith}
use lib.ListN.{length, get_or, replicate}
use Rattle.bits.specs.Bits.{bit_of, bits_of}
use Rattle.bits.proofs.Below.{below_at}
use Rattle.orders.specs.Streams.{number_bits, zeros, repeated}
use Rattle.stream_writer.specs.declared.Writer.{Writer}
use Rattle.stream_writer.specs.Writer.{place_of, Written}

-- Room for all is room for what is left.
pub room_left : {w v : Writer} {out bits now rest : List ℕ} → Written w out bits v now rest → place_of w + length bits ≤ 8 * length out
    → place_of v + length rest ≤ 8 * length now
room_left a h = omega (arith, a.place, a.long)

pub zeros_split : (n m : ℕ) → zeros (n + m) ≡ zeros n ++ zeros m
zeros_split zero m = ap zeros (zero-add m)
zeros_split (suc n) m = ap zeros (suc-add n m) ∙ ap (λ l. 0 ∷ l) (zeros_split n m)

pub zeros_byte : (n : ℕ) → zeros (8 * n) ++ number_bits 8 0 ≡ zeros (8 * (n + 1))
zeros_byte n = let e : 8 * n + 8 ≡ 8 * (n + 1) = omega arith in sym (zeros_split (8 * n) 8) ∙ ap zeros e

pub zeros_bit : (n : ℕ) → zeros n ++ (0 ∷ []) ≡ zeros (n + 1)
zeros_bit n = sym (zeros_split n 1)

pub number_bit : (left value : ℕ) → 0 < left → number_bits left value ≡ value / 2 ^ (left - 1) % 2 ∷ number_bits (left - 1) value
number_bit left value h = let e : left ≡ suc (left - 1) = omega arith in ap (λ n. number_bits n value) e

pub number_length : (width value : ℕ) → length (number_bits width value) ≡ width
number_length zero value = refl
number_length (suc width) value = ap suc (number_length width value)

-- A byte's bits, by its place.
module _ (bytes : List ℕ) (i : ℕ) where
  bit_there : (j place : ℕ) → place ≡ 8 * i + j → j < 8 → bit_of bytes place ≡ get_or bytes i 0 / 2 ^ (7 - j) % 2
  bit_there j place p h =
      let e : place / 8 ≡ i = omega arith in
      let f : place % 8 ≡ j = omega arith in
      rw (e, f)

  pub byte_first : (count : ℕ) → i < count
      → bits_of bytes (8 * i) (8 * (count - i)) ≡ number_bits 8 (get_or bytes i 0) ++ bits_of bytes (8 * (i + 1)) (8 * (count - (i + 1)))
  byte_first count h =
      let n = 8 * (count - (i + 1)) in
      let e : 8 * (count - i) ≡ suc (suc (suc (suc (suc (suc (suc (suc n))))))) = omega arith in
      let after : 8 * i + 1 + 1 + 1 + 1 + 1 + 1 + 1 + 1 ≡ 8 * (i + 1) = omega arith in
      ap (bits_of bytes (8 * i)) e
      ∙ (λ k.
      bit_there 0 (8 * i) (omega arith) (omega arith) k
      ∷ bit_there 1 (8 * i + 1) (omega arith) (omega arith) k
      ∷ bit_there 2 (8 * i + 1 + 1) (omega arith) (omega arith) k
      ∷ bit_there 3 (8 * i + 1 + 1 + 1) (omega arith) (omega arith) k
      ∷ bit_there 4 (8 * i + 1 + 1 + 1 + 1) (omega arith) (omega arith) k
      ∷ bit_there 5 (8 * i + 1 + 1 + 1 + 1 + 1) (omega arith) (omega arith) k
      ∷ bit_there 6 (8 * i + 1 + 1 + 1 + 1 + 1 + 1) (omega arith) (omega arith) k
      ∷ bit_there 7 (8 * i + 1 + 1 + 1 + 1 + 1 + 1 + 1) (omega arith) (omega arith) k
      ∷ bits_of bytes (after k) n)

pub eight_equal : (bit : ℕ) → bit < 2 → number_bits 8 (bit * 255) ≡ replicate 8 bit
eight_equal = below_at 2 (λ bit. number_bits 8 (bit * 255)) (replicate 8) refl

-- So many bits, each eight times.
pub repeated_length : (bytes : List ℕ) (first count : ℕ) → length (repeated 8 (bits_of bytes first count)) ≡ 8 * count
repeated_length bytes first zero = refl
repeated_length bytes first (suc count) = let h = repeated_length bytes (first + 1) count in omega arith
