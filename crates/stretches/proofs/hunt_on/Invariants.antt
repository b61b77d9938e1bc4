-- `hunt_on` is hunting, bit by bit, up to the first window that means something or to the end.
-- Assumes nothing.
use Rattle.bits.specs.Bits.{bits_of}
use Rattle.bits.specs.Place.{place_under}
use Rattle.stretches.specs.Stretch.{hunt_on}
use Rattle.stretches.proofs.StretchLoops.{Invariant}
use Rattle.stretches.proofs.hunt_on.Given as goal

abbrev pub invariant-loop-left : goal.invariant-loop-left
invariant-loop-left l =
    Invariant (hunt_on l.initial.window (bits_of l.input (place_under l.initial.at) l.count)) (hunt_on l.window (bits_of l.input (place_under l.at) l.left)) l.initial.at l.at l.left l.count

abbrev pub decreases-loop-left : goal.decreases-loop-left
decreases-loop-left l = l.left
