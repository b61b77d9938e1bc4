-- What the program `reply` says of the characters of its input (document 02, F-12; document 01, "Streams with their records").
-- Assumes nothing.
use Rattle.std.specs.Prelude.{Bool, cond, ◌&&◌, ◌||◌, List, [], ◌∷◌, ◌++◌, ℕ, leb, eqb}
use Rattle.frames.specs.Tray.{part_of}
use Rattle.replies.specs.Said.{Reply}
use Rattle.replies.specs.Replies.{reply_verdict, reply_bits, read_of}
use Rattle.output.specs.Ascii.{ascii}
use Rattle.line_meanings.specs.declared.LineNotes.{LineNotes}
use Rattle.line_meanings.specs.Notes.{no_notes}
use Rattle.hex_streams.specs.Streams.{HexStream, hex_stream_of}
use Rattle.number_lines.specs.NumberLines.{line_of}
use Rattle.byte_lines.specs.ByteLines.{frame_line}
use Rattle.layout.specs.ListingLines.{refused_line}
use Rattle.decimal_digits.specs.Decimal.{labelled}
use Rattle.messages.specs.Sentences.{sentence_of}
use Rattle.reply_reports.specs.declared.Report.{Report}

abbrev pub report : ℕ → Reply → ℕ → ℕ → LineNotes → Report
report expected reply number line notes =
    record { verdict = reply_verdict reply; bits = reply_bits expected reply; expected = expected; number = number; line = line; notes = notes }

-- A whole reply is said; else the line that was refused, if one was; else what the stream's end says of it.
abbrev pub report_by : ℕ → Reply → HexStream → Report
report_by expected reply stream =
    cond (eqb (reply_verdict reply) 0 || eqb stream.number 0) (report expected reply 0 0 no_notes)
    (report expected reply stream.number stream.line stream.notes)

-- A report, and the buffer with the data bits.
pub record ReplyRead : Type 0 where
  pub report : Report
  pub buffer : List ℕ

abbrev pub reply_read : Report → List ℕ → ReplyRead
reply_read report buffer = record { report = report; buffer = buffer }

-- The whole program, from the count of bits that are expected, a buffer, and all the characters of its input: by the bits ahead of the first line that is
-- refused.
unfoldable pub reply_read_of : ℕ → List ℕ → List ℕ → ReplyRead
reply_read_of expected buffer characters =
    let stream = hex_stream_of characters in
    let result = read_of expected buffer stream.bits in
    reply_read (report_by expected result.reply stream) result.buffer

abbrev pub whole_report : Report → Bool
whole_report r = eqb r.verdict 0 && eqb r.number 0

-- A verdict's line: which of the three answers it is, and the count of data bits in four digits.
unfoldable pub verdict_line : ℕ → ℕ → List ℕ
verdict_line verdict bits =
    cond (eqb verdict 0) (line_of (ascii "whole ") (bits ∷ []) (4 ∷ []))
    (cond (eqb verdict 1) (ascii "no header\n") (line_of (ascii "cut short ") (bits ∷ []) (4 ∷ [])))

-- The data bits, if there are any, as a frame's line.
unfoldable pub data_line : ℕ → List ℕ → List ℕ
data_line bits buffer = cond (eqb bits 0) [] (frame_line (part_of buffer bits))

-- What it prints: the verdict and the data bits; or the line of a refused line; nothing at number 6.
unfoldable pub text_of : ReplyRead → List ℕ
text_of r =
    let p = r.report in
    cond (leb 7 p.number) (refused_line p.number p.line)
    (cond (eqb p.number 0) (verdict_line p.verdict p.bits ++ data_line p.bits r.buffer) [])

-- Why a reply is not whole.
unfoldable pub reason_of : ℕ → ℕ → ℕ → List ℕ
reason_of verdict bits expected =
    cond (eqb verdict 1) (ascii "no header 11101\n") (labelled (ascii "cut short: ") bits (ascii " of ") ++ labelled [] expected (ascii " bits\n"))

-- What standard error gets: nothing of a whole reply; else why it is not whole, or why a line was refused.
unfoldable pub message_of : Report → List ℕ
message_of p =
    cond (whole_report p) []
    (cond (eqb p.number 0) (reason_of p.verdict p.bits p.expected) (sentence_of p.number p.line p.notes))
