-- Numbers in a line: hexadecimal in both cases, and decimal, of any length (ours, as the words are).
-- Assumes nothing.
use Rattle.std.specs.Prelude.{Bool, cond, ◌&&◌, List, [], ◌∷◌, ℕ, ◌+◌, ◌*◌, ◌-◌, ◌^◌, Option, Some, None, ltb, leb}
use Prim.Native.Char.{code}

-- The number that a digit stands for; a character that is none counts as 16, which no base has.
abbrev pub digit_of : ℕ → ℕ
digit_of c =
    cond (leb (code "0") c && leb c (code "9")) (c - code "0")
    (cond (leb (code "A") c && leb c (code "F")) (c - code "A" + 10)
    (cond (leb (code "a") c && leb c (code "f")) (c - code "a" + 10) 16))

-- A digit more. A number that reached 2^56 stays as it is, so that it keeps to 64 bits: it is beyond every field's size, beyond every frame and beyond the
-- stream's room, as the whole number is, and so the same is said of it.
abbrev pub number_limit : ℕ
number_limit = 2 ^ 56

abbrev pub with_digit : ℕ → ℕ → ℕ → ℕ
with_digit base n d = cond (ltb n number_limit) (n * base + d) n

-- Digits, behind the number that those before stand for; no number where a character is none.
unfoldable pub number_from : ℕ → ℕ → List ℕ → Option ℕ
number_from base n [] = Some n
number_from base n (c ∷ cs) = cond (ltb (digit_of c) base) (number_from base (with_digit base n (digit_of c)) cs) None

unfoldable pub number_of : ℕ → List ℕ → Option ℕ
number_of base [] = None
number_of base (c ∷ cs) = number_from base 0 (c ∷ cs)

abbrev pub hexadecimal : List ℕ → Option ℕ
hexadecimal word = number_of 16 word

abbrev pub decimal : List ℕ → Option ℕ
decimal word = number_of 10 word

-- A number that passes a test; any other is none.
abbrev pub passing : (ℕ → Bool) → Option ℕ → Option ℕ
passing test None = None
passing test (Some n) = cond (test n) (Some n) None

-- A number of so many bits; a larger one is none.
unfoldable pub sized : ℕ → Option ℕ → Option ℕ
sized width n = passing (λ m. ltb m (2 ^ width)) n
