-- Numbers in hexadecimal digits, as they are printed (document 01, "Streams with their records").
-- Assumes nothing.
use Rattle.std.specs.Prelude.{cond, List, [], ◌∷◌, ℕ, zero, suc, ◌+◌, ◌-◌, ◌/◌, ◌%◌, ◌^◌, ltb}
use Prim.Native.Char.{code}

-- "All digits are hexadecimal, upper case": the character of a number below 16.
abbrev pub character_of : ℕ → ℕ
character_of n = cond (ltb n 10) (code "0" + n) (code "A" + (n - 10))

-- A number in exactly `width` digits, highest first; what needs more digits is left out.
unfoldable pub characters_of : ℕ → ℕ → List ℕ
characters_of n zero = []
characters_of n (suc width) = character_of (n / 16 ^ width % 16) ∷ characters_of n width
