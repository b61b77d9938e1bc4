-- The status at the end of a run, by whether a refusal ended it.
-- Assumes nothing.
use mathlib.Core.Logic.{inr}
use mathlib.Core.Path.{◌≡◌}
use Prim.Native.Nat.{ℕ}
use borrow.Author.Tests.{eq-eqb, ne_eqb}
use Rattle.statuses.specs.Status.{Finished}

module _ (number : ℕ) where
  pub whole_status : number ≡ 0 → Finished number 0
  whole_status z = inr (simp (eq-eqb number 0 z))

  pub refused_status : (number ≡ 0 → ⊥) → Finished number 1
  refused_status n = inr (simp (ne_eqb number 0 n))
