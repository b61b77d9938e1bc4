-- Blocks of an input in a row, for any run that goes on from block to block.
-- Assumes nothing.
use Rattle.std.specs.Prelude.{◌≡◌, List, [], ◌∷◌, ◌++◌, ℕ}

abbrev pub joined : List (List ℕ) → List ℕ
joined [] = []
joined (block ∷ blocks) = block ++ joined blocks

-- Each block by the contract of the call that takes it.
abbrev pub InBlocks : {S : Type 0} → (S → List ℕ → S → Type 0) → S → List (List ℕ) → S → Type 0
InBlocks takes s [] r = s ≡ r
InBlocks {S} takes s (block ∷ blocks) r = (t : S) × takes s block t × InBlocks takes t blocks r
