-- One inverted bit (document 01, "The damage table").
-- Assumes nothing.
use Rattle.std.specs.Prelude.{List, [], ◌∷◌, ℕ, zero, suc, ◌-◌}

-- The same bits with one inverted: bit k, counted from 0.
abbrev pub inverted : ℕ → List ℕ → List ℕ
inverted k [] = []
inverted zero (bit ∷ bits) = (1 - bit) ∷ bits
inverted (suc k) (bit ∷ bits) = bit ∷ inverted k bits
