-- `body_on` is a body, bit by bit, up to its fourth or to the end.
-- Assumes nothing.
use Rattle.bits.specs.Bits.{bits_of}
use Rattle.bits.specs.Place.{place_under}
use Rattle.recogniser.specs.Parts.{standing}
use Rattle.stretches.specs.Stretch.{body_on}
use Rattle.stretches.proofs.StretchLoops.{Invariant}
use Rattle.stretches.proofs.body_on.Given as goal

abbrev pub invariant-loop-left : goal.invariant-loop-left
invariant-loop-left l =
    Invariant
    (body_on l.r (bits_of l.input (place_under l.initial.at) l.count))
    (body_on (standing l.r l.nibble l.received) (bits_of l.input (place_under l.at) l.left))
    l.initial.at l.at l.left l.count

abbrev pub decreases-loop-left : goal.decreases-loop-left
decreases-loop-left l = l.left
