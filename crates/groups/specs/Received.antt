-- What is held of a group: the bits received of it as a byte, the latest lowest (document 02, F-4).
-- Assumes nothing.
use Rattle.std.specs.Prelude.{Bool, ◌||◌, List, [], ◌∷◌, ℕ, zero, suc, eqb}
use Rattle.bits.specs.Bits.{bits_of, shifted}

-- With one bit more.
abbrev pub held_with : ℕ → ℕ → ℕ
held_with held bit = shifted 8 held bit

-- The bits of a whole group by its byte, the first received first.
abbrev pub bits_in : ℕ → List ℕ
bits_in held = bits_of (held ∷ []) 0 8

-- What is held after some bits, by what was held before them.
abbrev pub left_by : ℕ → List ℕ → ℕ
left_by held [] = held
left_by held (bit ∷ bits) = left_by (held_with held bit) bits

-- Whether some bits, so many of them, pass a test.
abbrev pub some_bits : ℕ → (List ℕ → Bool) → Bool
some_bits zero test = test []
some_bits (suc n) test = some_bits n (λ bits. test (0 ∷ bits)) || some_bits n (λ bits. test (1 ∷ bits))

-- "In a sound state what is held of an unfinished group is what some bits, as many as its cycles received, would leave."
abbrev pub left_by_some : ℕ → ℕ → Bool
left_by_some received held = some_bits received (λ bits. eqb (left_by 0 bits) held)
