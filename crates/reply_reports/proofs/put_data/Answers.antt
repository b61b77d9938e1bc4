-- `put_data` puts the line of the data bits, if there are any.
-- Assumes nothing.
use mathlib.Core.Path.{◌∙◌, sym, ap}
use native.Mathlib.Nat.{add-zero}
use Rattle.output.specs.Block.{block, put_all, put_if_fits}
use Rattle.output.proofs.Pieces.{put_when_fits}
use Rattle.byte_lines.specs.ByteLines.{frame_line}
use Rattle.reply_reports.specs.Report.{data_line}
use Rattle.reply_reports.proofs.Texts.{no_data, some_data}
use Rattle.reply_reports.proofs.put_data.Goals as goal

pub returns-then-bits-eq0 : goal.returns-then-bits-eq0
returns-then-bits-eq0 c =
    let s = c in
    ap (block s.args.out.now) (sym (add-zero s.args.at))
    ∙ ap (put_all s.args.out.now s.args.at) (sym (no_data s.args.bits s.args.buffer.now c.if-bits-eq0.true))

pub returns : goal.returns
returns c =
    let put = c in
    let part = put in
    let e = part in
    let s = e in
    let line = some_data s.args.bits s.args.buffer.now e.if-bits-eq0.false ∙ ap frame_line (sym part.frame_part.ensures) in
    put.frame_line.ensures
    ∙ ap (put_if_fits s.args.out.now s.args.at) (sym line)
    ∙ put_when_fits s.args.out.now s.args.at (data_line s.args.bits s.args.buffer.now) s.requires
