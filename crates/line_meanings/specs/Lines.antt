-- The input's lines, and a line as it is read character by character, since it may be of any length (document 01, "Streams with their records").
-- Assumes nothing.
use Rattle.std.specs.Prelude.{Bool, true, false, cond, not, ◌&&◌, List, [], ◌∷◌, ◌++◌, ℕ, ◌+◌, ◌*◌, ◌/◌, ◌%◌, ◌^◌, ltb, eqb, length, get_or, set, take, drop, replicate, Result, Ok, Err}
use Rattle.output.specs.Ascii.{line_feed}
use Rattle.line_meanings.specs.declared.LineFault.{LineFault}
use Rattle.line_meanings.specs.declared.LineFault.TheVariants.{WrongCharacter, WrongLength}
use Rattle.line_meanings.specs.declared.LineNotes.{LineNotes}
use Rattle.line_meanings.specs.declared.LineSoFar.{LineSoFar}
use Rattle.line_meanings.specs.declared.Scanned.{Scanned}
use Rattle.line_meanings.specs.Digits.{is_digit, digit_of}
use Rattle.line_meanings.specs.Line.{LineMeaning, line_meaning, digit_limit, line_bytes, count_fits, hex_number, hex_count}
use Rattle.line_meanings.specs.Notes.{no_notes, with_note, notes_of}

abbrev pub is_empty : List ℕ → Bool
is_empty [] = true
is_empty (c ∷ cs) = false

-- The lines of an input, given the present line so far: "A line ends at a line feed or at the end of the input; nothing after the last line feed is no line."
unfoldable pub lines_from : List ℕ → List ℕ → List (List ℕ)
lines_from line [] = cond (is_empty line) [] (line ∷ [])
lines_from line (c ∷ cs) = cond (eqb c line_feed) (line ∷ lines_from [] cs) (lines_from (line ++ (c ∷ [])) cs)

abbrev pub lines_of : List ℕ → List (List ℕ)
lines_of input = lines_from [] input

-- A line as it is read: what it means, and its notes for a message.
pub record LineRead : Type 0 where
  pub meaning : LineMeaning
  pub notes : LineNotes

abbrev pub line_read : List ℕ → LineRead
line_read line = record { meaning = line_meaning line; notes = notes_of line }

-- The lines in order.
unfoldable pub lines_read : List (List ℕ) → List LineRead
lines_read [] = []
lines_read (line ∷ lines) = line_read line ∷ lines_read lines

-- "the line's number from 1", counted in 64 bits, behind n lines.
abbrev pub next_line_number : ℕ → ℕ
next_line_number n = (n + 1) % 2 ^ 64

-- No characters yet.
abbrev pub empty_line : LineSoFar
empty_line = record { wrong = false; digits = 0; bytes = replicate line_bytes 0; notes = no_notes }

-- One more digit: a byte takes two, the first of them the high one. Beyond the limit only that there are more is kept.
abbrev pub with_digit : LineSoFar → ℕ → LineNotes → LineSoFar
with_digit s d notes =
    let at = s.digits / 2 in
    cond (ltb s.digits digit_limit)
    (record { wrong = s.wrong; digits = s.digits + 1; bytes = set s.bytes at (get_or s.bytes at 0 % 16 * 16 + d); notes = notes })
    (record { wrong = s.wrong; digits = digit_limit + 1; bytes = s.bytes; notes = notes })

-- One more character.
unfoldable pub with_character : LineSoFar → ℕ → LineSoFar
with_character s c =
    let notes = with_note s.notes c in
    cond (is_digit c) (with_digit s (digit_of c) notes) (record { wrong = true; digits = s.digits; bytes = s.bytes; notes = notes })

-- More characters, one after the other.
unfoldable pub with_characters : LineSoFar → List ℕ → LineSoFar
with_characters s [] = s
with_characters s (c ∷ cs) = with_characters (with_character s c) cs

-- What the line means, if it ends here.
unfoldable pub answer_of : LineSoFar → Result ℕ LineFault
answer_of s = cond s.wrong (Err WrongCharacter) (cond (count_fits s.digits) (Ok (s.digits / 2)) (Err WrongLength))

-- The same with the bytes that it holds.
unfoldable pub meaning_so_far : LineSoFar → LineMeaning
meaning_so_far s = record { number = hex_number (answer_of s); bytes = take (hex_count (answer_of s)) s.bytes }

-- Whether there are no characters yet: at the end of the input that is no line.
abbrev pub no_characters : LineSoFar → Bool
no_characters s = not s.wrong && eqb s.digits 0

-- The characters ahead of the first line feed.
unfoldable pub up_to_line_feed : List ℕ → List ℕ
up_to_line_feed [] = []
up_to_line_feed (c ∷ cs) = cond (eqb c line_feed) [] (c ∷ up_to_line_feed cs)

-- A block scanned from a place on, up to and with the next line feed, or to its end: the line then, the next place, and whether it is complete.
unfoldable pub scan_of : LineSoFar → List ℕ → ℕ → Scanned
scan_of s block at =
    let ahead = up_to_line_feed (drop at block) in
    let complete = ltb (at + length ahead) (length block) in
    record { line = with_characters s ahead; next = at + length ahead + cond complete 1 0; complete = complete }

-- The line as it is read, if it ends here.
abbrev pub read_so_far : LineSoFar → LineRead
read_so_far s = record { meaning = meaning_so_far s; notes = s.notes }

-- The lines of an input, character by character: the line so far ends at a line feed, and at the end of the input unless it has no characters.
unfoldable pub read_from : LineSoFar → List ℕ → List LineRead
read_from s [] = cond (no_characters s) [] (read_so_far s ∷ [])
read_from s (c ∷ cs) = cond (eqb c line_feed) (read_so_far s ∷ read_from empty_line cs) (read_from (with_character s c) cs)
