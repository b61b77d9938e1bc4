-- Hunting and the body, by what a window and a body mean (document 01, "Hunting").
-- Assumes nothing.
use Rattle.std.specs.Prelude.{cond, ℕ, ltb, eqb}
use Rattle.bits.specs.Bits.{shifted}
use Rattle.windows.specs.declared.Meaning.{Meaning}
use Rattle.windows.specs.declared.Meaning.TheVariants.{Quiet, Trigger, Header}
use Rattle.windows.specs.Windows.{meaning_of, is_fast}
use Rattle.recogniser.specs.declared.Phase.TheVariants.{Hunt, Body, Field3}
use Rattle.recogniser.specs.declared.Request.TheVariants.{Nothing, Lv1, Fast, BadFast, Slow}
use Rattle.recogniser.specs.declared.SlowRequest.TheVariants.{LeaveRunMode}
use Rattle.recogniser.specs.declared.Recogniser.{Recogniser}
use Rattle.recogniser.specs.declared.Transition.{Transition}
use Rattle.recogniser.specs.Parts.{start_of, idle, move_to, gathered_of}

-- "The window returns to 00000 after an LV1"; after a header "the next four bits are its body".
abbrev pub hunt_by : ℕ → Meaning → Transition
hunt_by w Quiet = move_to (start_of Hunt w 0 0) Nothing
hunt_by w (Trigger position) = move_to idle (Lv1 position)
hunt_by w Header = move_to (start_of Body 0 0 0) Nothing

abbrev pub hunt_of : Recogniser → ℕ → Transition
hunt_of r bit = let w = shifted 5 r.shift bit in hunt_by w (meaning_of w)

-- "1011 Slow, any other a bad Fast." The body's bits do not enter the window.
abbrev pub body_of : Recogniser → ℕ → Transition
body_of r bit =
    let body = shifted 4 r.shift bit in
    cond (ltb r.count 3) (gathered_of r body)
    (cond (is_fast body) (move_to idle (Fast body))
    (cond (eqb body 0b1011) (move_to (start_of Field3 0 0 0) (Slow LeaveRunMode))
    (move_to idle (BadFast body))))
