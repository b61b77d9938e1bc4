-- What the program `reply` promises, proved.
-- Assumes nothing.
use mathlib.Core.Path.{◌≡◌, sym, ap, subst}
use mathlib.Core.List.{List}
use Prim.Native.Nat.{ℕ}
use lib.ListN.{length}
use Rattle.frames.specs.Tray.{filled_of}
use Rattle.replies.specs.Said.{Whole}
use Rattle.replies.specs.Replies.{ReplyResult, reply_result, read_of}
use Rattle.replies.proofs.Sent.{sent_binary, sent_read}
use Rattle.hex_streams.specs.Streams.{hex_stream_of}
use Rattle.hex_streams.proofs.Rest.{stream_binary}
use Rattle.reply_reports.specs.Report.{report_by, whole_report, reply_read_of}
use Rattle.reply_reports.proofs.Examples.{report_examples}
use Rattle.reply_words.proofs.Words.{word_examples}
use Rattle.replying.proofs.Standing.{as_read, as_stopped}
use Rattle.round_trip.specs.Bytes.{HoldsBits}
use Rattle.stream_promises.proofs.Replies.{filled_holds}
use Rattle.reply_promises.specs.Replies.{ProgramReads, ReplyProgramPromise}

-- The program reads the bits of its lines.
program : ProgramReads
unfolding reply_read_of
program bits buffer characters room s =
    let stream = hex_stream_of characters in
    let b = stream_binary characters in
    let read : read_of (length bits) buffer stream.bits ≡ reply_result Whole (filled_of 0 buffer bits) = sent_read bits stream.bits s b buffer in
    record {
      whole = ap (λ (r : ReplyResult). whole_report (report_by (length bits) r.reply stream)) read;
      count = ap (λ (r : ReplyResult). (report_by (length bits) r.reply stream).bits) read;
      exact = subst (λ (r : ReplyResult). HoldsBits bits buffer r.buffer) (sym read)
          (filled_holds bits buffer (sent_binary bits stream.bits s b buffer) room);
    }

pub reply_program_promise : ReplyProgramPromise
reply_program_promise = record { program = program; texts = report_examples; words = word_examples; as_read = as_read; as_stopped = as_stopped }
