-- The 32 windows and what each means (document 01, "Hunting"; document 02, F-1).
-- Assumes nothing.
use Rattle.std.specs.Prelude.{cond, List, [], ◌∷◌, ℕ, zero, suc, eqb}
use Rattle.bits.specs.Bits.{number_of}
use Rattle.windows.specs.declared.Meaning.{Meaning}
use Rattle.windows.specs.declared.Meaning.TheVariants.{Quiet, Trigger, Header}
use Rattle.worked_examples.specs.CommandBits.{line, field}

abbrev pub windows_from : ℕ → ℕ → List ℕ
windows_from w zero = []
windows_from w (suc count) = w ∷ windows_from (suc w) count

abbrev pub windows : List ℕ
windows = windows_from 0 32

-- A window that means something.
pub record Pattern : Type 0 where
  pub bits : List ℕ
  pub meaning : Meaning

abbrev pub pattern : List ℕ → Meaning → Pattern
pattern bits meaning = record { bits = bits; meaning = meaning }

-- "11101 is an exact LV1"; "11100, 11111, 11001, 10101 and 01101 are an LV1 with flip", here with the position of F-1; "10110 is a header".
abbrev pub patterns : List Pattern
patterns =
    pattern (line "11101") (Trigger 0)
    ∷ pattern (line "11100") (Trigger 5)
    ∷ pattern (line "11111") (Trigger 4)
    ∷ pattern (line "11001") (Trigger 3)
    ∷ pattern (line "10101") (Trigger 2)
    ∷ pattern (line "01101") (Trigger 1)
    ∷ pattern (line "10110") Header
    ∷ []

-- What the list says of a window; "any other window does nothing".
abbrev pub look_up : List Pattern → ℕ → Meaning
look_up [] w = Quiet
look_up (p ∷ ps) w = cond (eqb w (number_of 0 p.bits)) p.meaning (look_up ps w)

abbrev pub listed_meaning : ℕ → Meaning
listed_meaning w = look_up patterns w

-- The places where two lists of bits differ, counted from k. Apart from the recogniser's `differences`, which is held against it.
abbrev pub differing : ℕ → List ℕ → List ℕ → List ℕ
differing k [] ys = []
differing k (x ∷ xs) [] = []
differing k (x ∷ xs) (y ∷ ys) = cond (eqb x y) (differing (suc k) xs ys) (k ∷ differing (suc k) xs ys)

-- By the distance from 11101: an LV1 is what differs from it nowhere or in one place, which is its position.
abbrev pub by_distance : ℕ → List ℕ → Meaning
by_distance w [] = Trigger 0
by_distance w (k ∷ []) = Trigger k
by_distance w (k ∷ j ∷ more) = cond (eqb w (number_of 0 (line "10110"))) Header Quiet

abbrev pub near_meaning : ℕ → Meaning
near_meaning w = by_distance w (differing 1 (field 5 w) (line "11101"))
