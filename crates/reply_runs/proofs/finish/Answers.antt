-- `reply_runs::finish`: the texts that are written stand in the block of output.
-- Assumes nothing.
use Rattle.std.proofs.Common.{sym, arith}
use lib.Seq.{length-take-le}
use Rattle.output.proofs.Pieces.{put_end_within}
use Rattle.reply_reports.specs.Report.{reply_read, text_of, message_of}
use Rattle.reply_reports.proofs.Texts.{text_short, message_short}
use Rattle.reply_runs.proofs.finish.Goals as goal

pub slice_bounds-write_whole-end : goal.slice_bounds-write_whole-end
slice_bounds-write_whole-end c =
    let said = reply_read c.report-report.result c.args.buffer.now in
    put_end_within c.args.output.now (text_of said) _ 0 _ c.put_text-text.ensures
    (omega (arith, text_short said c.requires.0, c.requires.1))

pub slice_bounds-write_whole-end-2 : goal.slice_bounds-write_whole-end-2
slice_bounds-write_whole-end-2 c = sym (length-take-le _ _ (slice_bounds-write_whole-end c))

pub slice_bounds-tell-end : goal.slice_bounds-tell-end
slice_bounds-tell-end c =
    let p = c.report-report.result in
    put_end_within _ (message_of p) _ 0 _ c.put_message-message.ensures
    (omega (arith, message_short p, c.put_text-text.auto.out, c.requires.1))

pub slice_bounds-tell-end-2 : goal.slice_bounds-tell-end-2
slice_bounds-tell-end-2 c = sym (length-take-le _ _ (slice_bounds-tell-end c))
