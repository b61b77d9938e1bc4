-- The range test, by the definition's sum and without it: what each comparison on the way decides.
-- Assumes nothing.
use mathlib.Core.Path.{◌≡◌, ◌∙◌, refl, sym}
use mathlib.Core.Bool.{Bool, true, false}
use Prim.Native.Nat.{ℕ, ◌+◌, ◌*◌, ◌-◌, ◌<◌, ◌≤◌}
use native.Mathlib.Omega.{arith}
use lib.Dec.{leb}
use borrow.Author.Tests.{le-leb, lt-leb, leb-true, leb-false}
use Rattle.limits.specs.Limits.{input_limit}
use Rattle.bits.specs.Range.{range_fits}
use Rattle.bits.proofs.Truth.{both}

module _ (input first count : ℕ) where
  pub too_long : input_limit < input → false ≡ range_fits input first count
  too_long h = simp (lt-leb input input_limit h)

  -- an input that is not too long: the end decides
  pub by_sum : input ≤ input_limit → leb (first + count) (8 * input) ≡ range_fits input first count
  by_sum h = simp (le-leb input input_limit h)

  pub past_end : input ≤ input_limit → 8 * input < first → false ≡ range_fits input first count
  past_end h g = sym (lt-leb (first + count) (8 * input) (omega arith)) ∙ by_sum h

  same_test : (b : Bool) → leb count (8 * input - first) ≡ b → first ≤ 8 * input → leb (first + count) (8 * input) ≡ b
  same_test true e h = le-leb (first + count) (8 * input) (let g = leb-true count (8 * input - first) e in omega arith)
  same_test false e h = lt-leb (first + count) (8 * input) (let g = leb-false count (8 * input - first) e in omega arith)

  pub within : input ≤ input_limit → first ≤ 8 * input → leb count (8 * input - first) ≡ range_fits input first count
  within h g = sym (same_test (leb count (8 * input - first)) refl g) ∙ by_sum h

-- A range that fits, in numbers.
pub range_within : (bytes first count : ℕ) → range_fits bytes first count ≡ true → (bytes ≤ input_limit) × (first + count ≤ 8 * bytes)
range_within bytes first count e =
    let s = both (leb bytes input_limit) (leb (first + count) (8 * bytes)) e in
    (leb-true bytes input_limit s.0, leb-true (first + count) (8 * bytes) s.1)
