-- The programs, from the characters of their input to the text of their output (document 01, "Streams with their records": the station program).
-- Assumes nothing.
use Rattle.std.specs.Prelude.{true, false, List, ◌++◌, ◌≡◌, ℕ, length, replicate}
use Rattle.output.specs.Ascii.{ascii}
use Rattle.program.specs.declared.PrintOptions.{PrintOptions}
use Rattle.program.specs.Listing.{Outcome, outcome, no_refusal, state_lines}
use Rattle.program.specs.RunState.{start, snapshot, system_at, end_of}
use Rattle.program.specs.Program.{program_of}
use Rattle.program.specs.Turns.{Turn, TurnsMade, all_read, all_written, last_of}

-- The station program prints the frames and no state. "Its 2,048 FIFO words start at zero".
abbrev pub station : PrintOptions
station = record { frames = true; state = false }

abbrev pub station_on : List ℕ → Outcome
station_on characters = program_of station (replicate 2048 0) (replicate 8192 0) characters

-- A run by the contracts of the functions between a read and a write: turns in a row, each of which receives what a read brought and lists it, from the
-- start up to a run that is over. What they write, and then the lines of the state, is the program's text for all the characters that they read, and what
-- ended the run is what ends the program; wherever the reads end.
abbrev pub RunsAsRead : PrintOptions → List ℕ → List ℕ → List ℕ → List ℕ → List Turn → Type 0
RunsAsRead prints store tray out input turns =
    let g = snapshot start store tray out in
    let h = last_of g turns in
    TurnsMade prints.frames g input turns → h.state.over ≡ true
    → program_of prints store tray (all_read g turns)
    ≡ outcome (all_written turns ++ state_lines prints h.state.decoder h.store) (end_of h.state) (system_at h)

pub record ProgramPromise : Type 0 where
  pub as_read : (prints : PrintOptions) (store tray out input : List ℕ) (turns : List Turn) → length store ≡ 2048 → length tray ≡ 8192
      → length out ≡ 65536 → length input ≡ 65536 → RunsAsRead prints store tray out input turns
  -- "Input lines B5C074 and E0B080 print, whole:", and "the third line's value becomes 0005011C" (document 02, F-1).
  pub listing : (station_on (ascii "B5C074\nE0B080\n")).text
      ≡ ascii "000000000010 28 01 00000000\n"
      ++ (ascii "000000000015 01 05 00000015\n" ++ (ascii "00000000001C 01 07 0005011C\n" ++ ascii "000000000028 11 01 00000000\n"))
  pub to_the_end : (station_on (ascii "B5C074\nE0B080\n")).refusal ≡ no_refusal
  -- "The default plan grows .. It reaches the station program" (document 02, F-9): register 10 exists, and 11 does not.
  pub default_plan : (station_on (ascii "B585091A5AC2C48D00\n")).text ≡ ascii "000000000020 20 01 000A1234\n" ++ ascii "000000000041 20 08 000B1234\n"
  -- "A refused line prints "!", the number in two digits, a space, the line's number from 1 in eight, and ends the run."
  pub refused : (station_on (ascii "B5C074\nE0b080\nE0B080\n")).text
      ≡ ascii "000000000010 28 01 00000000\n" ++ (ascii "000000000015 01 05 00000015\n" ++ ascii "!07 00000002\n")
