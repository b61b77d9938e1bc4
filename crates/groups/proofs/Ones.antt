-- The ones of a byte, as the language counts them, are those among its bits: computed for each byte.
-- Assumes nothing.
use mathlib.Core.Path.{◌≡◌, refl}
use Prim.Native.Nat.{ℕ, ◌^◌, ◌<◌}
use lib.Count.{ones}
use Rattle.bits.proofs.Below.{below_at}
use Rattle.groups.specs.Vote.{ones_of}
use Rattle.groups.specs.Received.{bits_in}

pub ones_are : (g : ℕ) → g < 2 ^ 8 → ones g ≡ ones_of (bits_in g)
unfolding ones
ones_are g low = below_at 256 ones (λ g. ones_of (bits_in g)) refl g low
