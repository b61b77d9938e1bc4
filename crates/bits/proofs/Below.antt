-- A fact about each number below a limit as one computed equation: a function's values in a list, and its value at a variable read off that list.
-- Assumes nothing.
use mathlib.Core.Path.{◌≡◌}
use mathlib.Core.List.{List, [], ◌∷◌}
use Prim.Native.Nat.{ℕ, zero, suc, ◌<◌}
use native.Mathlib.Nat.{le_of_suc-le-suc, not-suc-le-zero}

module _ {A : Type 0} where
  -- the values below n
  abbrev pub below : ℕ → (ℕ → A) → List A
  below zero f = []
  below (suc n) f = f 0 ∷ below n (λ k. f (suc k))

  pub below_at : (n : ℕ) (f g : ℕ → A) → below n f ≡ below n g → (k : ℕ) → k < n → f k ≡ g k
  below_at zero f g e k h = absurd (not-suc-le-zero h)
  below_at (suc n) f g e zero h = cc
  below_at (suc n) f g e (suc k) h =
      let rest : below n (λ k. f (suc k)) ≡ below n (λ k. g (suc k)) = cc in
      below_at n (λ k. f (suc k)) (λ k. g (suc k)) rest k (le_of_suc-le-suc h)
