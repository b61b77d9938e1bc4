-- Numbers in decimal digits, as few as they need.
-- Assumes nothing.
use Rattle.std.specs.Prelude.{cond, List, [], ◌∷◌, ◌++◌, ℕ, zero, suc, ◌+◌, ◌/◌, ◌%◌, ltb}
use Prim.Native.Char.{code}

abbrev pub decimal_digit : ℕ → ℕ
decimal_digit d = code "0" + d

-- At most so many digits.
unfoldable pub decimal_within : ℕ → ℕ → List ℕ
decimal_within zero n = []
decimal_within (suc most) n = cond (ltb n 10) (decimal_digit n ∷ []) (decimal_within most (n / 10) ++ (decimal_digit (n % 10) ∷ []))

-- A number of 64 bits has at most 20.
abbrev pub decimal_of : ℕ → List ℕ
decimal_of n = decimal_within 20 n

-- A number between two texts.
unfoldable pub labelled : List ℕ → ℕ → List ℕ → List ℕ
labelled label n after = label ++ (decimal_of n ++ after)
