-- What a call answers that reads a line into a buffer of any length.
-- Assumes nothing.
use Rattle.std.specs.Prelude.{List, ℕ, Result, Ok, Err}
use Rattle.line_meanings.specs.Line.{fault_number, Read}
use Rattle.hexlines.specs.declared.ReadFault.{ReadFault}
use Rattle.hexlines.specs.declared.ReadFault.TheVariants.{Line, NoRoom}

-- The number of each refusal.
abbrev pub read_fault_number : ReadFault → ℕ
read_fault_number (Line fault) = fault_number fault
read_fault_number NoRoom = 4

-- The refusal number of each answer; 0 is none.
abbrev pub reading_number : Result ℕ ReadFault → ℕ
reading_number (Ok count) = 0
reading_number (Err fault) = read_fault_number fault

-- How many bytes each answer has.
abbrev pub reading_count : Result ℕ ReadFault → ℕ
reading_count (Ok count) = count
reading_count (Err fault) = 0

-- An answer by its number and count, with the lent buffer's later contents.
abbrev pub reading_as : Result ℕ ReadFault → List ℕ → Read
reading_as answer buffer = record { number = reading_number answer; count = reading_count answer; buffer = buffer }
