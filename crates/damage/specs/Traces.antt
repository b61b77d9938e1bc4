-- A trace: one request for each bit, so that its place is its time. What clean and damaged streams ask for, cycle by cycle.
-- Assumes nothing.
use Rattle.std.specs.Prelude.{List, [], ◌∷◌, ◌++◌, ℕ, ◌+◌, ◌-◌, replicate}
use Rattle.recogniser.specs.declared.Request.{Request}
use Rattle.recogniser.specs.declared.Request.TheVariants.{Nothing}
use Rattle.recogniser.specs.declared.Recogniser.{Recogniser}
use Rattle.recogniser.specs.Step.{step_of}
use Rattle.clean_streams.specs.Commands.{Command, width_of}
use Rattle.clean_streams.specs.CleanStreams.{Item, item_size}
use Rattle.damage.specs.Table.{Replacement, nothing, at, itself}
use Rattle.damage.specs.Hits.{HitCycles, stands_in}

-- The requests of a recogniser over some bits, and where it stands after them. CNT is 0: no Slow command is about.
unfoldable pub requests_of : Recogniser → List ℕ → List Request
requests_of r [] = []
requests_of r (bit ∷ bits) = (step_of r bit 0).event.request ∷ requests_of (step_of r bit 0).next bits

unfoldable pub recogniser_after : Recogniser → List ℕ → Recogniser
recogniser_after r [] = r
recogniser_after r (bit ∷ bits) = recogniser_after (step_of r bit 0).next bits

abbrev pub quiet : ℕ → List Request
quiet n = replicate n Nothing

-- Over the bits of a command: nothing, or one request at one of them.
abbrev pub spread : ℕ → Replacement → List Request
spread width nothing = quiet width
spread width (at p e) = quiet (p - 1) ++ (e ∷ quiet (width - p))

abbrev pub command_trace : Command → List Request
command_trace c = spread (width_of c) (itself c)

-- An item in whose command's place something stands.
abbrev pub item_trace : Item → Replacement → List Request
item_trace i x = quiet i.ahead ++ spread (width_of i.command) x

abbrev pub clean_trace : List Item → ℕ → List Request
clean_trace [] trailing = quiet trailing
clean_trace (i ∷ is) trailing = item_trace i (itself i.command) ++ clean_trace is trailing

-- Any number of inverted bits; the first bit is that of cycle n.
abbrev pub hit_trace : HitCycles → ℕ → List Item → ℕ → List Request
hit_trace hits n [] trailing = quiet trailing
hit_trace hits n (i ∷ is) trailing = item_trace i (stands_in hits n i) ++ hit_trace hits (n + item_size i) is trailing
