-- What the program `accept` says of the characters of its input, line by line (document 02, F-8; document 01, "Streams with their records").
-- Assumes nothing.
use Rattle.std.specs.Prelude.{Bool, true, false, cond, List, [], ◌∷◌, ◌++◌, ℕ, ◌+◌, ◌*◌, ◌%◌, ◌^◌, leb, eqb, length}
use Rattle.limits.specs.Limits.{clock_limit}
use Rattle.bits.specs.Bits.{bits_of}
use Rattle.patterns.specs.Verdict.{Verdict}
use Rattle.patterns.specs.Verdict.{Accepted, WrongRange, Unknown, Cut, TooClose}
use Rattle.patterns.specs.Verdicts.{verdict_number, verdict_place, verdict_of}
use Rattle.line_meanings.specs.declared.LineNotes.{LineNotes}
use Rattle.line_meanings.specs.Notes.{no_notes}
use Rattle.line_meanings.specs.Lines.{LineRead, lines_of, lines_read}
use Rattle.layout.specs.ListingLines.{refused_line, fault_line}
use Rattle.fault_messages.specs.FaultSentences.{fault_sentence}
use Rattle.messages.specs.Sentences.{sentence_of}
use Rattle.judgements.specs.declared.Judgement.{Judgement}

-- By what is said of the bits, and by a line that was refused.
abbrev pub by_verdict : Verdict → Judgement
by_verdict v = record { number = verdict_number v; place = verdict_place v; line = 0; notes = no_notes }

abbrev pub by_line : ℕ → ℕ → LineNotes → Judgement
by_line number line notes = record { number = number; place = 0; line = line; notes = notes }

-- A pattern at fault that ends the run: all but one that the stream's end would cut, which may go on in the next line.
abbrev pub is_fault : Verdict → Bool
is_fault Accepted = false
is_fault WrongRange = false
is_fault (Unknown place) = true
is_fault (Cut place) = false
is_fault (TooClose place) = true

-- The bits of a line.
abbrev pub line_bits : LineRead → List ℕ
line_bits line = let bytes = line.meaning.bytes in bits_of bytes 0 (8 * length bytes)

-- "the line's number from 1", counted in 64 bits.
abbrev pub next_line_number : ℕ → ℕ
next_line_number n = (n + 1) % 2 ^ 64

-- The lines, behind so many bits and n lines; `said` is what is said of the stream if it ends with these bits more. A refused line ends the run, and so does
-- the first pattern at fault; so many bits that they pass the last clock cycle are number 6, as in a listing.
unfoldable pub judged_lines : (List ℕ → Verdict) → ℕ → ℕ → List LineRead → Judgement
judged_lines said bits n [] = by_verdict (said [])
judged_lines said bits n (line ∷ lines) =
    let number = line.meaning.number in
    let more = line_bits line in
    let m = next_line_number n in
    cond (eqb number 0)
    (cond (leb (bits + length more) clock_limit)
    (cond (is_fault (said more)) (by_verdict (said more)) (judged_lines (λ rest. said (more ++ rest)) (bits + length more) m lines))
    (by_line 6 m no_notes))
    (by_line number m line.notes)

-- The whole program, from all the characters of its input.
unfoldable pub judged_of : List ℕ → Judgement
judged_of characters = judged_lines verdict_of 0 0 (lines_read (lines_of characters))

-- What it prints: nothing for an accepted stream; the line of a pattern at fault, or that of a refused line; nothing at number 6.
unfoldable pub text_of : Judgement → List ℕ
text_of j =
    cond (leb 13 j.number) (fault_line j.number j.place)
    (cond (leb 7 j.number) (refused_line j.number j.line) [])

-- What standard error gets of a refusal.
unfoldable pub message_of : Judgement → List ℕ
message_of j = cond (leb 13 j.number) (fault_sentence j.number j.place) (sentence_of j.number j.line j.notes)
