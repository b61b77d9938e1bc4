-- The fields of a Slow command, cycle by cycle (document 01, "Slow commands").
-- Assumes nothing.
use Rattle.std.specs.Prelude.{Bool, false, cond, ℕ, ◌+◌, ltb, leb}
use Rattle.bits.specs.Bits.{shifted}
use Rattle.slow_fields.specs.Slow.{is_slow, is_frame, length_of, kept_of}
use Rattle.recogniser.specs.declared.Phase.TheVariants.{Field4, Field5}
use Rattle.recogniser.specs.declared.Request.{Request}
use Rattle.recogniser.specs.declared.Request.TheVariants.{Nothing, Slow}
use Rattle.recogniser.specs.declared.SlowRequest.TheVariants.{Command, Bad, Frame}
use Rattle.recogniser.specs.declared.Recogniser.{Recogniser}
use Rattle.recogniser.specs.declared.Transition.{Transition}
use Rattle.recogniser.specs.Parts.{start_of, idle, move_to, gathered_of}

-- The end of a Slow command that carries no frame, or of a bad Slow.
abbrev pub slow_request_of : ℕ → ℕ → ℕ → Request
slow_request_of command address value = cond (is_slow command) (Slow (Command command address value)) (Slow (Bad command))

abbrev pub field3_of : Recogniser → ℕ → Transition
field3_of r bit =
    let command = shifted 4 r.shift bit in
    cond (ltb r.count 3) (gathered_of r command)
    (move_to (start_of Field4 0 command 0) Nothing)

-- "A Field 5 of length 0 ends with Field 4." A bad Slow is "recorded after Field 4".
abbrev pub field4_of : Recogniser → ℕ → ℕ → Transition
field4_of r bit cnt =
    let address = shifted 4 r.shift bit in
    cond (ltb r.count 3) (gathered_of r address)
    (cond (ltb 0 (length_of r.command cnt)) (move_to (start_of Field5 0 r.command address) Nothing)
    (cond (is_frame r.command) (move_to idle (Slow (Frame r.command false)))
    (move_to idle (slow_request_of r.command address 0))))

-- Whether the present bit is the last of Field 5, by the present CNT.
abbrev pub ends_of : Recogniser → ℕ → Bool
ends_of r cnt = leb (length_of r.command cnt) (r.count + 1)

-- Field 5 of a command that carries no frame.
abbrev pub kept_field_of : Recogniser → ℕ → ℕ → Transition
kept_field_of r bit cnt =
    let value = kept_of r.command r.held bit in
    cond (ends_of r cnt) (move_to idle (slow_request_of r.command r.address value))
    (move_to (record {
      phase = r.phase;
      shift = r.shift;
      count = r.count + 1;
      command = r.command;
      address = r.address;
      held = value;
      group = r.group;
      unsteady = r.unsteady;
    }) Nothing)
