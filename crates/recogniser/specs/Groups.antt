-- Frame bits and groups of eight cycles (document 01, "What commands do", with the vote of document 02, F-4).
-- Assumes nothing.
use Rattle.std.specs.Prelude.{Bool, false, cond, ◌&&◌, ◌||◌, ℕ, ◌+◌, ◌/◌, ◌%◌, eqb}
use Rattle.groups.specs.Vote.{vote_of, unsteady}
use Rattle.groups.specs.Received.{held_with, bits_in}
use Rattle.recogniser.specs.declared.FrameBit.{FrameBit}
use Rattle.recogniser.specs.declared.FrameBit.TheVariants.{None, At}
use Rattle.recogniser.specs.declared.Request.TheVariants.{Nothing, Slow}
use Rattle.recogniser.specs.declared.SlowRequest.TheVariants.{Frame}
use Rattle.recogniser.specs.declared.Recogniser.{Recogniser}
use Rattle.recogniser.specs.declared.Transition.{Transition}
use Rattle.recogniser.specs.Parts.{idle, transition}
use Rattle.recogniser.specs.Fields.{ends_of}

-- "WrFrontEnd and RdFrontEnd carry each bit for eight cycles": whether a cycle, by those of Field 5 before it, is the eighth of its group.
abbrev pub is_eighth : ℕ → Bool
is_eighth count = eqb (count % 8) 7

-- What is held of the present group behind a cycle: the bits received of it, and nothing once it is finished. A WrReceiver has no groups.
abbrev pub group_of : Recogniser → ℕ → ℕ
group_of r bit = cond (eqb r.command 6) 0 (cond (is_eighth r.count) 0 (held_with r.group bit))

-- The frame bit of a cycle. "WrReceiver carries one bit a cycle." A front-end bit is the vote of its group, "stored .. in the eighth cycle".
abbrev pub frame_bit_of : Recogniser → ℕ → FrameBit
frame_bit_of r bit =
    cond (eqb r.command 6) (At r.count bit)
    (cond (is_eighth r.count) (At (r.count / 8) (vote_of (bits_in (held_with r.group bit))))
    None)

-- "A group whose eight differ is unsteady": a finished group of this frame was, or the one that this bit finishes is. A WrReceiver has none.
abbrev pub unsteady_of : Recogniser → ℕ → Bool
unsteady_of r bit =
    cond (eqb r.command 6) false
    (r.unsteady || (is_eighth r.count && unsteady (bits_in (held_with r.group bit))))

-- One cycle of Field 5 of a frame, by its frame bit and what is held behind it of the groups.
abbrev pub frame_cycle_of : Recogniser → FrameBit → ℕ → Bool → ℕ → Transition
frame_cycle_of r frame group unsteady cnt =
    cond (ends_of r cnt) (transition idle (record { frame = frame; request = Slow (Frame r.command unsteady) }))
    (transition (record {
      phase = r.phase;
      shift = r.shift;
      count = r.count + 1;
      command = r.command;
      address = r.address;
      held = r.held;
      group = group;
      unsteady = unsteady;
    }) (record { frame = frame; request = Nothing }))

-- Field 5 of a frame.
abbrev pub frame_field_of : Recogniser → ℕ → ℕ → Transition
frame_field_of r bit cnt = frame_cycle_of r (frame_bit_of r bit) (group_of r bit) (unsteady_of r bit) cnt
