-- Two lists put together, taken apart again.
-- Assumes nothing.
use mathlib.Core.Path.{◌≡◌, refl, ap, ap₂}
use mathlib.Core.List.{List, [], ◌∷◌, ◌++◌}
use Prim.Native.Nat.{ℕ}
use native.Mathlib.Omega.{arith}
use lib.ListN.{length, get_or, drop}

-- Equal lists whose first parts are as long have equal parts.
pub record SameParts (xs ys us vs : List ℕ) : Type 0 where
  pub first : xs ≡ ys
  pub rest : us ≡ vs

pub same_parts : (xs ys us vs : List ℕ) → length xs ≡ length ys → xs ++ us ≡ ys ++ vs → SameParts xs ys us vs
same_parts [] [] us vs n e = record { first = refl; rest = e }
same_parts [] (y ∷ ys) us vs n e = absurd (omega arith)
same_parts (x ∷ xs) [] us vs n e = absurd (omega arith)
same_parts (x ∷ xs) (y ∷ ys) us vs n e =
    let head : x ≡ y = ap (λ (l : List ℕ). get_or l 0 0) e in
    let p = same_parts xs ys us vs (omega arith) (ap (λ (l : List ℕ). drop 1 l) e) in
    record { first = ap₂ ◌∷◌ head p.first; rest = p.rest }
