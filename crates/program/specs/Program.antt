-- A whole program: from all the characters of its input to all that it prints (document 01, "Streams with their records": the station program).
-- Assumes nothing.
use Rattle.std.specs.Prelude.{◌≡◌, ℕ, Bool, true, List, [], ◌++◌, take, drop}
use Rattle.plans.specs.Plan.{default_plan}
use Rattle.decoder.specs.Opening.{open_of}
use Rattle.calls.specs.Turn.{System, system_of, decoder_of}
use Rattle.line_meanings.specs.Lines.{lines_of, lines_read}
use Rattle.program.specs.declared.PrintOptions.{PrintOptions}
use Rattle.program.specs.declared.RunState.{RunState}
use Rattle.program.specs.Listing.{Outcome, outcome, print_first, listing_of, state_lines}
use Rattle.program.specs.RunState.{Snapshot, still_to_print}

-- The program "opens at cycle 0 with the default plan", with a store and a tray.
abbrev pub opened : List ℕ → List ℕ → System
opened store tray = system_of (open_of default_plan 0).decoder store tray

-- The listing of all the input's lines.
abbrev pub listed : Bool → List ℕ → List ℕ → List ℕ → Outcome
listed frames store tray characters = listing_of frames (opened store tray) 0 (lines_read (lines_of characters))

-- All that a program prints, the refusal that ended it, and what it leaves.
unfoldable pub program_of : PrintOptions → List ℕ → List ℕ → List ℕ → Outcome
program_of prints store tray characters =
    let o = listed prints.frames store tray characters in
    outcome (o.text ++ state_lines prints (decoder_of o.system) o.system.machine.store) o.refusal o.system

-- The characters that a read brought and that are not scanned yet.
abbrev pub unscanned : RunState → List ℕ → List ℕ
unscanned s input = drop s.next (take s.length input)

-- A run under way stands for characters that were read and a text that was written: whatever more is read (nothing after the input's end), the listing
-- of it all is that text, and then what is still to be printed.
pub record Standing (frames : Bool) (store tray characters written : List ℕ) (g : Snapshot) (input : List ℕ) : Type 0 where
  pub same : (more : List ℕ) → (g.state.eof ≡ true → more ≡ [])
      → listed frames store tray (characters ++ more) ≡ print_first written (still_to_print frames g (unscanned g.state input ++ more))
