-- What a sound state has of the model (document 01, "A taking call").
-- Assumes nothing.
use Rattle.std.specs.Prelude.{Bool, true, ◌&&◌, ◌||◌, List, ℕ, zero, suc, ◌+◌, ltb, eqb, get_or}
use Rattle.plans.specs.declared.Plan.{Plan}
use Rattle.registers.specs.declared.Model.{Model}
use Rattle.plans.specs.Plan.{exists_at}

-- A test of so many numbers from i on.
unfoldable pub every_from : ℕ → ℕ → (ℕ → Bool) → Bool
every_from zero i f = true
every_from (suc n) i f = f i && every_from n (i + 1) f

-- "pointers are below 128"
abbrev pub fits_at : List ℕ → ℕ → Bool
fits_at pointers i = ltb (get_or pointers i 0) 128

unfoldable pub pointers_fit : List ℕ → Bool
pointers_fit pointers = every_from 16 0 (fits_at pointers)

-- "missing registers hold 0"
abbrev pub zero_at : Plan → List ℕ → ℕ → Bool
zero_at plan registers i = exists_at plan i || eqb (get_or registers i 0) 0

unfoldable pub missing_zero : Plan → Model → Bool
missing_zero plan m = every_from 16 0 (zero_at plan m.registers)
