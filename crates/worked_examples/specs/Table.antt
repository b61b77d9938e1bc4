-- What it means that the definitions give a table of worked examples.
-- Assumes nothing.
use Rattle.std.specs.Prelude.{◌≡◌, List, map, ℕ, length}

-- The table has so many rows; and what the definitions show for each is what is expected of it, all rows together.
pub record Table {R S : Type 0} (shown expected : R → S) (count : ℕ) (rows : List R) : Type 0 where
  pub counted : length rows ≡ count
  pub given : map shown rows ≡ map expected rows
