-- The inputs of `reply`, computed.
-- Assumes nothing.
use mathlib.Core.Path.{refl}
use Rattle.replies.specs.Replies.{behind_header}
use Rattle.line_meanings.specs.Line.{line_meaning}
use Rattle.line_meanings.specs.Lines.{lines_from, lines_read}
use Rattle.line_meanings.specs.Notes.{with_note, with_notes}
use Rattle.hex_streams.specs.Streams.{stream_lines, hex_stream_of}
use Rattle.hex_digits.specs.Digits.{characters_of}
use Rattle.number_lines.specs.NumberLines.{numbers_line}
use Rattle.byte_lines.specs.ByteLines.{byte_digits}
use Rattle.decimal_digits.specs.Decimal.{decimal_within, labelled}
use Rattle.reply_reports.specs.Report.{reply_read_of, verdict_line, data_line, text_of, reason_of, message_of}
use Rattle.reply_reports.specs.Examples.{ReportExamples}

pub report_examples : ReportExamples
unfolding behind_header line_meaning lines_from lines_read with_note with_notes stream_lines hex_stream_of characters_of numbers_line byte_digits decimal_within
    labelled reply_read_of verdict_line data_line text_of reason_of message_of
report_examples = record {
  whole = refl;
  two_lines = refl;
  whole_first = refl;
  cut_short = refl;
  no_bit = refl;
  no_header = refl;
  refused_first = refl;
  refused_inside = refl;
  whole_said = refl;
  cut_said = refl;
  missing_said = refl;
}
