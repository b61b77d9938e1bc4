-- How many bytes a line of numbers takes.
-- Assumes nothing.
use mathlib.Core.List.{List, [], ◌∷◌}
use mathlib.Core.Path.{◌≡◌, refl}
use Prim.Native.Nat.{ℕ, ◌+◌}
use native.Mathlib.Nat.{suc_inj}
use native.Mathlib.Omega.{arith}
use lib.ListN.{length, length-append, length-map}
use Rattle.hex_digits.proofs.Digits.{digits_length}
use Rattle.number_lines.specs.NumberLines.{numbers_line, line_of, numbers_size, fields_line, fields_size}

numbers_length : (ns ws : List ℕ) → length ns ≡ length ws → length (numbers_line ns ws) ≡ numbers_size ws
unfolding numbers_line
numbers_length [] [] e = refl
numbers_length [] (w ∷ ws) e = absurd (omega arith)
numbers_length (n ∷ ns) [] e = absurd (omega arith)
numbers_length (n ∷ ns) (w ∷ ws) e = rw (length-append, digits_length) (omega (arith, numbers_length ns ws (suc_inj e)))

pub line_length : (lead ns ws : List ℕ) → length ns ≡ length ws → length (line_of lead ns ws) ≡ length lead + numbers_size ws
line_length lead ns ws e = rw (length-append, numbers_length ns ws e)

pub fields_length : (lead : List ℕ) (fields : List (ℕ × ℕ)) → length (fields_line lead fields) ≡ length lead + fields_size fields
fields_length lead fields = line_length lead _ _ (rw (length-map, length-map))
