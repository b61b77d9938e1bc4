-- A bit put into a byte at a place's weight leaves a byte, is read back from it, and changes no higher and no lower bit.
-- Assumes nothing.
use mathlib.Core.Path.{◌≡◌}
use Prim.Native.Nat.{ℕ, ◌+◌, ◌*◌, ◌-◌, ◌/◌, ◌%◌, ◌^◌, ◌≤◌, ◌<◌}
use native.Mathlib.Omega.{arith}
use borrow.Author.Count.{below_none, below_more}

-- what is known of a byte whose bit of one weight is replaced
pub record Put (byte bit weight : ℕ) : Type 0 where
  pub shifted : 1 * weight % 256 ≡ weight
  pub some : 0 < weight
  pub less : byte / weight % 2 * weight ≤ byte
  pub fits : byte - byte / weight % 2 * weight + bit * weight < byte / 256 * 256 + 256
  pub read : (byte - byte / weight % 2 * weight + bit * weight) / weight % 2 ≡ bit
  pub above : (byte - byte / weight % 2 * weight + bit * weight) / (weight * 2) ≡ byte / (weight * 2)
  pub below : (byte - byte / weight % 2 * weight + bit * weight) % weight ≡ byte % weight

-- by the eight places, each of a literal weight
module _ (byte bit : ℕ) (small : bit < 2) where
  abbrev At : ℕ → Type 0
  At place = Put byte bit (2 ^ (7 - place))

  pub put : (place : ℕ) → place < 8 → Put byte bit (2 ^ (7 - place))
  put = below_more At 7 (below_more At 6 (below_more At 5 (below_more At 4 (below_more At 3 (below_more At 2 (below_more At 1 (below_more At 0 (below_none At)
      (omega arith)) (omega arith)) (omega arith)) (omega arith)) (omega arith)) (omega arith)) (omega arith)) (omega arith)
