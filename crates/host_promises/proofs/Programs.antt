-- The programs' promise, proved: the turns by the law of turns in a row, document 01's listing by computation.
-- Assumes nothing.
use mathlib.Core.Path.{refl}
use Rattle.recogniser.specs.Step.{step_of}
use Rattle.plans.specs.Plan.{plan_fits}
use Rattle.controller.specs.Commands.{act_of}
use Rattle.timing.specs.TooClose.{too_close}
use Rattle.decoder.specs.Opening.{open_of}
use Rattle.calls.specs.Turn.{turn_of}
use Rattle.line_meanings.specs.Line.{line_meaning}
use Rattle.line_meanings.specs.Lines.{lines_from, lines_read}
use Rattle.hex_digits.specs.Digits.{characters_of}
use Rattle.number_lines.specs.NumberLines.{numbers_line}
use Rattle.listing.specs.Records.{record_text}
use Rattle.program.specs.Listing.{bits_text, listing_of, state_lines}
use Rattle.program.specs.Program.{program_of}
use Rattle.program.proofs.Turns.{turns_print}
use Rattle.host_promises.specs.Programs.{ProgramPromise}

pub program_promise : ProgramPromise
unfolding step_of plan_fits act_of too_close open_of turn_of line_meaning lines_from lines_read characters_of numbers_line record_text bits_text listing_of state_lines
    program_of
program_promise = record {
  as_read = λ prints store tray out input turns long wide o i. turns_print prints store tray out input long wide i o turns;
  listing = refl;
  to_the_end = refl;
  default_plan = refl;
  refused = refl;
}
