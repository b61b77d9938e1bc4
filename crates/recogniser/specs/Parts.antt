-- What the phases share: starting a phase, one bit more of four.
-- Assumes nothing.
use Rattle.std.specs.Prelude.{false, ℕ, ◌+◌}
use Rattle.recogniser.specs.declared.Phase.{Phase}
use Rattle.recogniser.specs.declared.Phase.TheVariants.{Hunt}
use Rattle.recogniser.specs.declared.FrameBit.TheVariants.{None}
use Rattle.recogniser.specs.declared.Request.{Request}
use Rattle.recogniser.specs.declared.Request.TheVariants.{Nothing}
use Rattle.recogniser.specs.declared.Event.{Event}
use Rattle.recogniser.specs.declared.Recogniser.{Recogniser}
use Rattle.recogniser.specs.declared.Transition.{Transition}

-- At the start of a phase, with what stands in the shift register, Field 3 and Field 4.
abbrev pub start_of : Phase → ℕ → ℕ → ℕ → Recogniser
start_of phase shift command address = record {
  phase = phase;
  shift = shift;
  count = 0;
  command = command;
  address = address;
  held = 0;
  group = 0;
  unsteady = false;
}

-- "The window returns to 00000 after an LV1, a Fast, a bad Fast, and the end of a Slow or bad Slow command."
abbrev pub idle : Recogniser
idle = start_of Hunt 0 0 0

abbrev pub transition : Recogniser → Event → Transition
transition next event = record { next = next; event = event }

-- An event with a request and no frame bit; and one with neither.
abbrev pub requesting : Request → Event
requesting request = record { frame = None; request = request }

abbrev pub no_event : Event
no_event = requesting Nothing

-- The recogniser moves on, with a request and no frame bit.
abbrev pub move_to : Recogniser → Request → Transition
move_to next request = transition next (requesting request)

-- The same phase, with these bits of it received.
abbrev pub standing : Recogniser → ℕ → ℕ → Recogniser
standing r shift count = record {
  phase = r.phase;
  shift = shift;
  count = count;
  command = r.command;
  address = r.address;
  held = r.held;
  group = r.group;
  unsteady = r.unsteady;
}

-- One bit more of a body, Field 3 or Field 4 that is not whole yet.
abbrev pub gathered_of : Recogniser → ℕ → Transition
gathered_of r nibble = move_to (standing r nibble (r.count + 1)) Nothing
