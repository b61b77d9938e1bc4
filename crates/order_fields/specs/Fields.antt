-- The fields of a command in a line of a text of orders (document 02, F-2; the text is ours).
-- Assumes nothing.
use Rattle.std.specs.Prelude.{true, cond, List, [], ℕ, ◌+◌, Option, Some, ltb, length, get_or}
use Rattle.orders.specs.Fields.{uses_address, uses_value, value_width, is_frame_kind}
use Rattle.text_numbers.specs.Numbers.{hexadecimal, decimal, sized}
use Rattle.text_frames.specs.Frames.{Frame, frame, frame_of}
use Rattle.command_names.specs.Names.{one_if}

-- The fields by the line's words, the name being word 0; one that the command does not use is 0.
abbrev pub address_field : ℕ → List (List ℕ) → Option ℕ
address_field kind words = cond (uses_address kind) (sized 4 (hexadecimal (get_or words 1 []))) (Some 0)

abbrev pub value_field : ℕ → List (List ℕ) → Option ℕ
value_field kind words =
    cond (uses_value kind) (sized (value_width kind) (hexadecimal (get_or words (1 + one_if (uses_address kind)) []))) (Some 0)

abbrev pub frame_field : ℕ → List (List ℕ) → Frame
frame_field kind words = cond (is_frame_kind kind) (frame_of (get_or words 1 [])) (frame true 0 [])

-- The zeros ahead, behind the name and so many fields; 0 if the word is not there.
abbrev pub zeros_field : ℕ → List (List ℕ) → Option ℕ
zeros_field fields words = cond (ltb (1 + fields) (length words)) (decimal (get_or words (1 + fields) [])) (Some 0)
