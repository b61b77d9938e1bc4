-- A cycle of a front-end frame: one that gathers a bit of its group, and the one that finishes it.
-- Assumes nothing.
use mathlib.Core.Bool.{true, false, ◌||◌}
use mathlib.Core.Path.{◌≡◌}
use Prim.Native.Nat.{ℕ, ◌/◌}
use lib.Dec.{eqb}
use Rattle.bits.proofs.Truth.{or_none}
use Rattle.groups.specs.Vote.{vote_of, unsteady}
use Rattle.groups.specs.Received.{held_with, bits_in}
use Rattle.recogniser.specs.declared.FrameBit.TheVariants.{None, At}
use Rattle.recogniser.specs.declared.Recogniser.{Recogniser}
use Rattle.recogniser.specs.Groups.{is_eighth, group_of, frame_bit_of, unsteady_of, frame_cycle_of, frame_field_of}

module _ (r : Recogniser) (bit : ℕ) (groups : eqb r.command 6 ≡ false) where
  module _ (early : is_eighth r.count ≡ false) where
    pub no_bit : frame_bit_of r bit ≡ None
    no_bit = rw (groups, early)

    pub gathered : group_of r bit ≡ held_with r.group bit
    gathered = rw (groups, early)

    pub as_before : unsteady_of r bit ≡ r.unsteady
    as_before = rw (groups, early) (or_none r.unsteady)

    pub gathers : (cnt : ℕ) → frame_field_of r bit cnt ≡ frame_cycle_of r None (held_with r.group bit) r.unsteady cnt
    gathers cnt = λ i. frame_cycle_of r (no_bit i) (gathered i) (as_before i) cnt

  module _ (eighth : is_eighth r.count ≡ true) where
    abbrev whole : ℕ
    whole = held_with r.group bit

    pub voted : frame_bit_of r bit ≡ At (r.count / 8) (vote_of (bits_in whole))
    voted = rw (groups, eighth)

    pub finished : group_of r bit ≡ 0
    finished = rw (groups, eighth)

    pub joined : unsteady_of r bit ≡ (r.unsteady || unsteady (bits_in whole))
    joined = rw (groups, eighth)
