-- The hexadecimal line: what it means, and what a call that reads one answers (document 01, "A taking call": the refusal table).
-- Assumes nothing.
use Rattle.std.specs.Prelude.{Bool, cond, ◌&&◌, List, [], ℕ, ◌%◌, ltb, leb, eqb, length, Result, Ok, Err}
use Rattle.std.proofs.lemmas.List.Edits.{sets}
use Rattle.line_meanings.specs.declared.LineFault.{LineFault}
use Rattle.line_meanings.specs.declared.LineFault.TheVariants.{WrongCharacter, WrongLength}
use Rattle.line_meanings.specs.Digits.{all_digits, bytes_of}

-- A line's refusal number, 0 for none, and its bytes.
pub record LineMeaning : Type 0 where
  pub number : ℕ
  pub bytes : List ℕ

-- "a refused line gives no bytes"
abbrev pub refused : ℕ → LineMeaning
refused number = record { number = number; bytes = [] }

-- The most digits of a line, and the bytes that they stand for.
abbrev pub digit_limit : ℕ
digit_limit = 64

abbrev pub line_bytes : ℕ
line_bytes = 32

-- Number 8, turned round: "the count of digits is odd, or above 64".
abbrev pub count_fits : ℕ → Bool
count_fits n = eqb (n % 2) 0 && leb n digit_limit

-- Number 7 at "a character is not 0-9 or A-F", else number 8, else the bytes: "the lowest number wins".
unfoldable pub line_meaning : List ℕ → LineMeaning
line_meaning line =
    cond (all_digits line)
    (cond (count_fits (length line)) (record { number = 0; bytes = bytes_of line }) (refused 8))
    (refused 7)

-- The number of each refusal.
abbrev pub fault_number : LineFault → ℕ
fault_number WrongCharacter = 7
fault_number WrongLength = 8

-- The refusal number of each answer; 0 is none.
abbrev pub hex_number : Result ℕ LineFault → ℕ
hex_number (Ok count) = 0
hex_number (Err fault) = fault_number fault

-- How many bytes each answer has.
abbrev pub hex_count : Result ℕ LineFault → ℕ
hex_count (Ok count) = count
hex_count (Err fault) = 0

-- An answer by its number and count, with the lent buffer's later contents.
pub record Read : Type 0 where
  pub number : ℕ
  pub count : ℕ
  pub buffer : List ℕ

abbrev pub read_as : Result ℕ LineFault → List ℕ → Read
read_as answer buffer = record { number = hex_number answer; count = hex_count answer; buffer = buffer }

-- The line's bytes stand at the buffer's start, and nothing else in it changes; a refused line changes nothing.
unfoldable pub read_of : List ℕ → List ℕ → Read
read_of line buffer =
    let meaning = line_meaning line in
    record { number = meaning.number; count = length meaning.bytes; buffer = sets buffer 0 meaning.bytes }

-- The same into a buffer of any length: number 4 where it is lent fewer bytes than the longest line has (ours: document 01 names no buffer for a line).
unfoldable pub read_into : List ℕ → List ℕ → Read
read_into line buffer = cond (ltb (length buffer) line_bytes) (record { number = 4; count = 0; buffer = buffer }) (read_of line buffer)
