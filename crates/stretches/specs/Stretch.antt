-- Several cycles at once, as the taking loop walks them: hunting up to the first window that means something, a body up to its end, else one cycle.
-- How far a stretch goes is no promise to anybody: `proofs/SingleCycles.antt` shows it as so many single cycles, all but the last of which ask for nothing.
-- Assumes nothing.
use Rattle.std.specs.Prelude.{Bool, true, false, cond, List, [], ◌∷◌, ℕ, suc, ltb}
use Rattle.bits.specs.Bits.{shifted}
use Rattle.recogniser.specs.declared.Phase.{Phase}
use Rattle.recogniser.specs.declared.Phase.TheVariants.{Hunt, Body, Field3, Field4, Field5}
use Rattle.windows.specs.declared.Meaning.{Meaning}
use Rattle.windows.specs.declared.Meaning.TheVariants.{Quiet, Trigger, Header}
use Rattle.recogniser.specs.declared.Request.TheVariants.{Nothing, Lv1}
use Rattle.recogniser.specs.declared.Recogniser.{Recogniser}
use Rattle.recogniser.specs.declared.Transition.{Transition}
use Rattle.recogniser.specs.Parts.{start_of, idle, move_to}
use Rattle.windows.specs.Windows.{meaning_of}
use Rattle.recogniser.specs.Hunting.{body_of}
use Rattle.recogniser.specs.Step.{step_of}
use Rattle.stretches.specs.declared.Stretch.{Stretch}

-- So many cycles, where the recogniser stands after them, and what the last of them asks for.
abbrev pub stretched : ℕ → Transition → Stretch
stretched taken h = record { taken = taken; next = h.next; event = h.event }

abbrev pub one_more : Stretch → Stretch
one_more s = record { taken = suc s.taken; next = s.next; event = s.event }

-- Whether a window's meaning is nothing.
abbrev pub is_quiet : Meaning → Bool
is_quiet Quiet = true
is_quiet (Trigger position) = false
is_quiet Header = false

-- Hunting with a window.
abbrev pub hunt_beyond : ℕ → Meaning → Stretch → Stretch
hunt_beyond w Quiet rest = one_more rest
hunt_beyond w (Trigger position) rest = stretched 1 (move_to idle (Lv1 position))
hunt_beyond w Header rest = stretched 1 (move_to (start_of Body 0 0 0) Nothing)

abbrev pub hunt_on : ℕ → List ℕ → Stretch
hunt_on w [] = stretched 0 (move_to (start_of Hunt w 0 0) Nothing)
hunt_on w (bit ∷ bits) = let v = shifted 5 w bit in hunt_beyond v (meaning_of v) (hunt_on v bits)

-- A body.
abbrev pub body_on : Recogniser → List ℕ → Stretch
body_on r [] = stretched 0 (move_to r Nothing)
body_on r (bit ∷ bits) = cond (ltb r.count 3) (one_more (body_on (body_of r bit).next bits)) (stretched 1 (body_of r bit))

-- One cycle.
abbrev pub step_on : Recogniser → ℕ → List ℕ → Stretch
step_on r cnt [] = stretched 0 (move_to r Nothing)
step_on r cnt (bit ∷ bits) = stretched 1 (step_of r bit cnt)

abbrev pub stretch_by : Phase → Recogniser → ℕ → List ℕ → Stretch
stretch_by Hunt r cnt bits = hunt_on r.shift bits
stretch_by Body r cnt bits = body_on r bits
stretch_by Field3 r cnt bits = step_on r cnt bits
stretch_by Field4 r cnt bits = step_on r cnt bits
stretch_by Field5 r cnt bits = step_on r cnt bits

unfoldable pub stretch_of : Recogniser → ℕ → List ℕ → Stretch
stretch_of r cnt bits = stretch_by r.phase r cnt bits
