-- `Report::put_message` puts why a reply is not whole, or the sentence of a refused line.
-- Assumes nothing.
use mathlib.Core.Path.{◌∙◌, sym, ap}
use native.Mathlib.Omega.{arith}
use Rattle.output.specs.Block.{put_all}
use Rattle.messages.proofs.Lengths.{sentence_short}
use Rattle.reply_reports.proofs.Texts.{no_message, reason_message, line_message}
use Rattle.reply_reports.proofs.Report.put_message.Goals as goal

pub returns-then-is_whole : goal.returns-then-is_whole
returns-then-is_whole c = ap (put_all c.args.out.now 0) (sym (no_message c.args.self (sym c.is_whole.ensures ∙ c.if-is_whole.true)))

pub returns-then-self-eq0 : goal.returns-then-self-eq0
returns-then-self-eq0 c =
    let not_whole = sym c.is_whole.ensures ∙ c.if-is_whole.false in
    c.put_reason.ensures ∙ ap (put_all c.args.out.now 0) (sym (reason_message c.args.self not_whole c.if-self-eq0.true))

pub put_sentence-requires : goal.put_sentence-requires
put_sentence-requires c =
    let p = c.args.self in
    omega (arith, sentence_short p.number p.line p.notes, c.requires)

pub returns : goal.returns
returns c =
    let not_whole = sym c.is_whole.ensures ∙ c.if-is_whole.false in
    c.put_sentence.ensures ∙ ap (put_all c.args.out.now 0) (sym (line_message c.args.self not_whole c.if-self-eq0.false))
