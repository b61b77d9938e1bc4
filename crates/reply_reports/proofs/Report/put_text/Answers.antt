-- `Report::put_text` puts the verdict and the data bits, or the line of a refused line.
-- Assumes nothing.
use mathlib.Core.Path.{◌∙◌, sym, ap}
use Rattle.output.specs.Block.{put_all}
use Rattle.output.proofs.Pieces.{put_append, put_room}
use Rattle.reply_reports.specs.Report.{reply_read}
use Rattle.reply_reports.proofs.Texts.{no_text, verdict, bytes, reply_text, line_put, reply_fits}
use Rattle.reply_reports.proofs.Report.put_text.Goals as goal

pub returns-then-self-ge7 : goal.returns-then-self-ge7
returns-then-self-ge7 c =
    line_put (reply_read c.args.self c.args.buffer.now) c.args.out.now c.requires.0 c.if-self-ge7.true c.refused_line.ensures

pub returns-then-self-ne0 : goal.returns-then-self-ne0
returns-then-self-ne0 c =
    let said = reply_read c.args.self c.args.buffer.now in
    ap (put_all c.args.out.now 0) (sym (no_text said c.if-self-ge7.false c.if-self-ne0.true))

pub put_data-requires : goal.put_data-requires
put_data-requires c =
    let said = reply_read c.args.self c.args.buffer.now in
    put_room _ (verdict said) (bytes said) _ _ _ c.put_verdict-at.ensures (reply_fits said c.args.out.now c.requires.0 c.requires.1)

pub returns : goal.returns
returns c =
    let said = reply_read c.args.self c.args.buffer.now in
    c.put_data.ensures
    ∙ put_append _ (verdict said) (bytes said) _ _ _ c.put_verdict-at.ensures
    ∙ ap (put_all c.args.out.now 0) (sym (reply_text said c.if-self-ne0.false))
