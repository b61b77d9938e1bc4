-- Bytes as bits, bits as numbers, and a register that a bit is shifted into (document 01, "One cycle, one bit", "Hunting").
-- Assumes nothing.
use Rattle.std.specs.Prelude.{List, [], ◌∷◌, ℕ, zero, suc, ◌+◌, ◌*◌, ◌-◌, ◌/◌, ◌%◌, ◌^◌, get_or}

-- "Within a byte the highest bit comes first": the bit at a place, counted from the highest bit of byte 0.
abbrev pub bit_of : List ℕ → ℕ → ℕ
bit_of input place = get_or input (place / 8) 0 / 2 ^ (7 - place % 8) % 2

-- A range of the input: so many bits from a first bit on.
abbrev pub bits_of : List ℕ → ℕ → ℕ → List ℕ
bits_of input first zero = []
bits_of input first (suc count) = bit_of input first ∷ bits_of input (first + 1) count

-- "Numbers arrive highest bit first": a number so far, with the bits that follow.
abbrev pub number_of : ℕ → List ℕ → ℕ
number_of so_far [] = so_far
number_of so_far (bit ∷ bits) = number_of (so_far * 2 + bit) bits

-- "Hunting": a register of so many bits "takes each new bit at its low end and drops its oldest bit".
abbrev pub shifted : ℕ → ℕ → ℕ → ℕ
shifted width value bit = (value * 2 + bit) % 2 ^ width
