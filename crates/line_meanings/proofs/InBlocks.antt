-- A run that goes on from block to block: what is said in the end of the characters still to come is said of all.
-- Assumes nothing.
use mathlib.Core.Path.{◌≡◌, ◌∙◌, sym, ap}
use mathlib.Core.List.{List, [], ◌∷◌, ◌++◌, append_assoc}
use Prim.Native.Nat.{ℕ}
use Rattle.line_meanings.specs.Blocks.{joined, InBlocks}

module _ {S A : Type 0} (takes : S → List ℕ → S → Type 0) (still : S → List ℕ → A)
    (same : (s : S) (block : List ℕ) (r : S) → takes s block r → (more : List ℕ) → still r more ≡ still s (block ++ more)) where
  pub in_blocks : (blocks : List (List ℕ)) (s r : S) → InBlocks takes s blocks r → (more : List ℕ) → still r more ≡ still s (joined blocks ++ more)
  in_blocks [] s r e more = ap (λ (t : S). still t more) (sym e)
  in_blocks (block ∷ blocks) s r b more =
      in_blocks blocks b.0 r b.2 more
      ∙ same s block b.0 b.1 (joined blocks ++ more)
      ∙ ap (still s) (sym (append_assoc block (joined blocks) more))
