-- The listing: what a program prints for the lines of its input (document 01, "Streams with their records": the station program).
-- Assumes nothing.
use Rattle.std.specs.Prelude.{ℕ, ◌+◌, ◌*◌, ◌%◌, ◌^◌, Bool, cond, List, [], ◌∷◌, ◌++◌, length, ◌==◌}
use Rattle.bits.specs.Bits.{bits_of}
use Rattle.records.specs.declared.Cycle.{Cycle}
use Rattle.records.specs.declared.Cycle.TheVariants.{Silent, Recorded}
use Rattle.records.specs.Records.{head_of}
use Rattle.decoder.specs.declared.Decoder.{Decoder}
use Rattle.calls.specs.Run.{state_after}
use Rattle.calls.specs.Turn.{System, turn_of}
use Rattle.calls.specs.Take.{clock_fits}
use Rattle.line_meanings.specs.declared.LineNotes.{LineNotes}
use Rattle.line_meanings.specs.Notes.{no_notes}
use Rattle.line_meanings.specs.Lines.{LineRead}
use Rattle.layout.specs.ListingLines.{refused_line}
use Rattle.listing.specs.Records.{record_text}
use Rattle.state_listing.specs.State.{state_text}
use Rattle.program.specs.declared.PrintOptions.{PrintOptions}

-- The records cycle by cycle, whatever the taking calls are.
abbrev pub cycle_text : Bool → System → Cycle → List ℕ
cycle_text frames s Silent = []
cycle_text frames s (Recorded r) = record_text frames s.machine.tray (head_of r) r.value

unfoldable pub bits_text : Bool → System → List ℕ → List ℕ
bits_text frames s [] = []
bits_text frames s (bit ∷ bits) =
    let t = turn_of s bit in
    cycle_text frames t.state t.cycle ++ bits_text frames t.state bits

-- The refusal that ends a run: its number, the line's number and what the message tells of the line.
pub record Refusal : Type 0 where
  pub number : ℕ
  pub line : ℕ
  pub notes : LineNotes

abbrev pub refusal : ℕ → ℕ → LineNotes → Refusal
refusal number line notes = record { number = number; line = line; notes = notes }

-- The end of the input: number 0.
abbrev pub no_refusal : Refusal
no_refusal = refusal 0 0 no_notes

-- All that a run prints, the refusal that ends it, and the state, store and tray that it leaves.
pub record Outcome : Type 0 where
  pub text : List ℕ
  pub refusal : Refusal
  pub system : System

abbrev pub outcome : List ℕ → Refusal → System → Outcome
outcome text r s = record { text = text; refusal = r; system = s }

-- A text printed ahead of an outcome.
abbrev pub print_first : List ℕ → Outcome → Outcome
print_first text o = outcome (text ++ o.text) o.refusal o.system

-- The bits of the n-th line, and then the rest of the run, given for each state. At the clock's end they are rejected with number 6, and the run ends.
abbrev pub bits_then : Bool → System → ℕ → LineNotes → List ℕ → (System → Outcome) → Outcome
bits_then frames s n notes bits rest =
    cond (clock_fits s.machine.next (length bits))
    (print_first (bits_text frames s bits) (rest (state_after turn_of s bits)))
    (outcome [] (refusal 6 n notes) s)

-- "the line's number from 1", counted in 64 bits.
abbrev pub next_line_number : ℕ → ℕ
next_line_number n = (n + 1) % 2 ^ 64

-- The lines, after n that have ended: "A refused line prints .. and ends the run."
unfoldable pub listing_of : Bool → System → ℕ → List LineRead → Outcome
listing_of frames s n [] = outcome [] no_refusal s
listing_of frames s n (line ∷ lines) =
    let number = line.meaning.number in
    let bytes = line.meaning.bytes in
    let m = next_line_number n in
    cond (number == 0)
    (bits_then frames s m no_notes (bits_of bytes 0 (8 * length bytes)) (λ t. listing_of frames t m lines))
    (outcome (refused_line number m) (refusal number m line.notes) s)

-- The controller as the commands left it, if the program prints it.
unfoldable pub state_lines : PrintOptions → Decoder → List ℕ → List ℕ
state_lines prints d store = cond prints.state (state_text d store) []
