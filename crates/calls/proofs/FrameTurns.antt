-- Field 5 of a frame, cycle by cycle: its frame bits go into the tray, and its last cycle gives the frame's record.
-- Assumes nothing.
use mathlib.Core.Bool.{Bool, true, false}
use mathlib.Core.List.{List, [], ◌∷◌, ◌++◌}
use mathlib.Core.Path.{◌≡◌, refl, ◌∙◌, ap}
use Prim.Native.Nat.{ℕ, ◌+◌, ◌<◌}
use native.Mathlib.Omega.{arith}
use lib.ListN.{length}
use borrow.Author.Tests.{le-leb, lt-leb}
use Rattle.recogniser.specs.declared.Phase.TheVariants.{Field5}
use Rattle.recogniser.specs.declared.FrameBit.{FrameBit}
use Rattle.recogniser.specs.declared.FrameBit.TheVariants.{At}
use Rattle.recogniser.specs.declared.Recogniser.{Recogniser}
use Rattle.recogniser.specs.Parts.{idle}
use Rattle.slow_fields.specs.Slow.{is_frame, length_of}
use Rattle.recogniser.specs.Fields.{ends_of}
use Rattle.recogniser.specs.Groups.{group_of, unsteady_of, frame_bit_of}
use Rattle.recogniser.specs.Step.{step_of}
use Rattle.frames.specs.Tray.{tray_of, filled_of}
use Rattle.records.specs.declared.Record.{Record}
use Rattle.records.specs.declared.Cycle.{Cycle}
use Rattle.records.specs.declared.Cycle.TheVariants.{Silent, Recorded}
use Rattle.records.specs.Records.{head_of, words_of, flag_acted, flag_unsteady}
use Rattle.controller.specs.Commands.{slow_record, frame_value_of, act_of}
use Rattle.calls.specs.Run.{Turned, state_after, words_after}
use Rattle.timing.specs.declared.Earlier.{Earlier}
use Rattle.timing.specs.TooClose.{earlier_of, flagged}
use Rattle.calls.specs.Turn.{System, Machine, cnt_at, turn_of}

-- The record of a frame, after an earlier one.
abbrev pub frame_record : Earlier → ℕ → ℕ → Bool → ℕ → Record
frame_record earlier time command unsteady cnt =
    flagged earlier cnt (slow_record time command (flag_acted true + flag_unsteady unsteady) (frame_value_of command cnt))

abbrev pub system : Recogniser → Machine → System
system r m = record { recogniser = r; machine = m }

-- Inside Field 5 of a frame.
abbrev pub at : ℕ → ℕ → ℕ → ℕ → Bool → Recogniser
at command address count group unsteady = record {
  phase = Field5;
  shift = 0;
  count = count;
  command = command;
  address = address;
  held = 0;
  group = group;
  unsteady = unsteady;
}

-- The machine one cycle on, with the cycle's frame bit in its tray.
abbrev pub moved : FrameBit → Machine → Machine
moved f m = record { plan = m.plan; next = m.next + 1; model = m.model; earlier = m.earlier; store = m.store; tray = tray_of m.tray f }

-- A machine after a record.
abbrev recorded : Machine → Record → Machine
recorded m r = record { plan = m.plan; next = m.next; model = m.model; earlier = earlier_of r; store = m.store; tray = m.tray }

-- The machine behind a frame: its record is the earlier one, and the tray holds its bits.
abbrev pub framed : Machine → Record → List ℕ → Machine
framed m r tray = record { plan = m.plan; next = r.time + 1; model = m.model; earlier = earlier_of r; store = m.store; tray = tray }

abbrev turned : System → Cycle → Turned System
turned s c = record { state = s; cycle = c }

-- What the rest of Field 5 does: it stores bits from a place on, writes the frame's record, and leaves the recogniser hunting.
pub record FrameTaken (command place : ℕ) (stored : List ℕ) (unsteady : Bool) (bits : List ℕ) (s : System) : Type 0 where
  pub time : ℕ
  pub last_bit : time + 1 ≡ s.machine.next + length bits
  pub left : state_after turn_of s bits
      ≡ system idle
      (framed s.machine (frame_record s.machine.earlier time command unsteady (cnt_at s.machine)) (filled_of place s.machine.tray stored))
  pub words : words_after turn_of s bits
      ≡ head_of (frame_record s.machine.earlier time command unsteady (cnt_at s.machine)) ∷ frame_value_of command (cnt_at s.machine) ∷ []

module _ (command address : ℕ) (frame : is_frame command ≡ true) (count group : ℕ) (unsteady : Bool) (m : Machine) (bit : ℕ) where
  abbrev now : Recogniser
  now = at command address count group unsteady

  abbrev next : Recogniser
  next = at command address (count + 1) (group_of now bit) (unsteady_of now bit)

  abbrev then : Machine
  then = moved (frame_bit_of now bit) m

  abbrev written : Record
  written = frame_record m.earlier m.next command (unsteady_of now bit) (cnt_at m)

  goes_on : ends_of now (cnt_at m) ≡ false → turn_of (system now m) bit ≡ turned (system next then) Silent
  unfolding turn_of step_of act_of
  goes_on e = rw (frame, e)

  ends : ends_of now (cnt_at m) ≡ true
      → turn_of (system now m) bit ≡ turned (system idle (recorded then written)) (Recorded written)
  unfolding turn_of step_of act_of
  ends e = rw (frame, e)

  -- the last cycle
  pub last_taken : count + 1 ≡ length_of command (cnt_at m) → (place : ℕ) (stored : List ℕ)
      → tray_of m.tray (frame_bit_of now bit) ≡ filled_of place m.tray stored
      → FrameTaken command place stored (unsteady_of now bit) (bit ∷ []) (system now m)
  last_taken whole place stored same =
      let e = ends (le-leb (length_of command (cnt_at m)) (count + 1) (omega arith)) in
      record {
        time = m.next;
        last_bit = refl;
        left = ap (λ (t : Turned System). t.state) e ∙ ap (λ (tray : List ℕ). system idle (framed m written tray)) same;
        words = ap (λ (t : Turned System). words_of t.cycle ++ []) e;
      }

  -- a cycle ahead of others
  pub cycle_taken : (bits : List ℕ) → count + 1 < length_of command (cnt_at m) → (place later : ℕ) (stored rest : List ℕ) (u : Bool)
      → filled_of later (tray_of m.tray (frame_bit_of now bit)) rest ≡ filled_of place m.tray stored
      → FrameTaken command later rest u bits (system next then)
      → FrameTaken command place stored u (bit ∷ bits) (system now m)
  cycle_taken bits more place later stored rest u same f =
      let e = goes_on (lt-leb (length_of command (cnt_at m)) (count + 1) more) in
      record {
        time = f.time;
        last_bit = omega (arith, f.last_bit);
        left = ap (λ (t : Turned System). state_after turn_of t.state bits) e ∙ f.left
            ∙ ap (λ (tray : List ℕ). system idle (framed m (frame_record m.earlier f.time command u (cnt_at m)) tray)) same;
        words = ap (λ (t : Turned System). words_of t.cycle ++ words_after turn_of t.state bits) e ∙ f.words;
      }

-- A WrReceiver stores each bit.
pub receiver_taken : (address : ℕ) (bits : List ℕ) (bit count group : ℕ) (unsteady : Bool) (m : Machine)
    → count + length (bit ∷ bits) ≡ length_of 6 (cnt_at m)
    → FrameTaken 6 count (bit ∷ bits) false (bit ∷ bits) (system (at 6 address count group unsteady) m)
unfolding tray_of
receiver_taken address [] bit count group unsteady m whole = last_taken 6 address refl count group unsteady m bit whole count (bit ∷ []) refl
receiver_taken address (next ∷ bits) bit count group unsteady m whole =
    cycle_taken 6 address refl count group unsteady m bit (next ∷ bits) (omega arith) count (count + 1) (bit ∷ next ∷ bits) (next ∷ bits) false refl
    (receiver_taken address bits next (count + 1) 0 false (moved (At count bit) m) (omega arith))
