-- Hexadecimal digits as characters, as they are read (document 01, "A taking call": the refusal table).
-- Assumes nothing.
use Rattle.std.specs.Prelude.{Bool, true, cond, ◌&&◌, ◌||◌, List, [], ◌∷◌, ℕ, ◌+◌, ◌*◌, ◌-◌, leb}
use Prim.Native.Char.{code}

-- Whether a character is "0-9 or A-F".
abbrev pub is_digit : ℕ → Bool
is_digit c = (leb (code "0") c && leb c (code "9")) || (leb (code "A") c && leb c (code "F"))

-- The number that a digit stands for.
abbrev pub digit_of : ℕ → ℕ
digit_of c = cond (leb c (code "9")) (c - code "0") (c - code "A" + 10)

abbrev pub all_digits : List ℕ → Bool
all_digits [] = true
all_digits (c ∷ cs) = is_digit c && all_digits cs

-- Two digits a byte, the first of them the high one.
abbrev pub bytes_of : List ℕ → List ℕ
bytes_of [] = []
bytes_of (high ∷ []) = []
bytes_of (high ∷ low ∷ cs) = (digit_of high * 16 + digit_of low) ∷ bytes_of cs
