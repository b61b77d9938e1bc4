-- Lines of numbers in digits, as bytes (document 01, "Streams with their records").
-- Assumes nothing.
use Rattle.std.specs.Prelude.{List, [], ◌∷◌, ◌++◌, ℕ, ◌+◌, map}
use Prim.Native.Char.{code}
use Rattle.output.specs.Ascii.{line_feed}
use Rattle.hex_digits.specs.Digits.{characters_of}

abbrev pub space : ℕ
space = code " "

-- What stands after a number: a space while more follow, else the line feed.
abbrev pub separator_after : List ℕ → ℕ
separator_after [] = line_feed
separator_after (n ∷ ns) = space

-- Numbers, each in its width of digits, "parted by spaces" and ended by a line feed.
unfoldable pub numbers_line : List ℕ → List ℕ → List ℕ
numbers_line [] widths = []
numbers_line (n ∷ ns) [] = []
numbers_line (n ∷ ns) (width ∷ widths) = characters_of n width ++ (separator_after ns ∷ numbers_line ns widths)

-- A line: its lead, and its numbers.
abbrev pub line_of : List ℕ → List ℕ → List ℕ → List ℕ
line_of lead numbers widths = lead ++ numbers_line numbers widths

-- How many bytes numbers of these widths take, each with its separator.
abbrev pub numbers_size : List ℕ → ℕ
numbers_size [] = 0
numbers_size (width ∷ widths) = width + 1 + numbers_size widths

-- The same by a list of fields, each of them a number and its width.
abbrev pub fields_text : List (ℕ × ℕ) → List ℕ
fields_text fields = numbers_line (map (λ (f : ℕ × ℕ). f.0) fields) (map (λ (f : ℕ × ℕ). f.1) fields)

abbrev pub fields_line : List ℕ → List (ℕ × ℕ) → List ℕ
fields_line lead fields = line_of lead (map (λ (f : ℕ × ℕ). f.0) fields) (map (λ (f : ℕ × ℕ). f.1) fields)

abbrev pub fields_size : List (ℕ × ℕ) → ℕ
fields_size fields = numbers_size (map (λ (f : ℕ × ℕ). f.1) fields)
