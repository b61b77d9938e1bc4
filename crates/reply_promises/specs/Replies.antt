-- What the program `reply` promises beside the seventh promise, which is of the call: it reads back a reply that was sent (document 02, F-12).
-- Assumes nothing.
use Rattle.std.specs.Prelude.{◌≡◌, true, List, ℕ, ◌*◌, ◌≤◌, length}
use Rattle.replies.specs.Sent.{Sent}
use Rattle.hex_streams.specs.Streams.{hex_stream_of}
use Rattle.reply_reports.specs.Report.{ReplyRead, whole_report, reply_read_of}
use Rattle.reply_reports.specs.Examples.{ReportExamples}
use Rattle.reply_words.specs.Words.{WordExamples}
use Rattle.replying.specs.Replying.{AsRead, AsStopped}
use Rattle.round_trip.specs.Bytes.{HoldsBits}

-- The program `reply`: of lines whose bits, ahead of a refused line, hold such a reply, it says that it is whole, with as many bits, and has them exact.
pub record ProgramReadBack (bits buffer : List ℕ) (r : ReplyRead) : Type 0 where
  pub whole : whole_report r.report ≡ true
  pub count : r.report.bits ≡ length bits
  pub exact : HoldsBits bits buffer r.buffer

abbrev pub ProgramReads : Type 0
ProgramReads =
    (bits buffer characters : List ℕ) → length bits ≤ 8 * length buffer → Sent bits (hex_stream_of characters).bits
    → ProgramReadBack bits buffer (reply_read_of (length bits) buffer characters)

pub record ReplyProgramPromise : Type 0 where
  pub program : ProgramReads
  pub texts : ReportExamples
  pub words : WordExamples
  pub as_read : AsRead
  pub as_stopped : AsStopped
