-- `put_verdict` puts the line of a verdict.
-- Assumes nothing.
use mathlib.Core.Path.{◌∙◌, sym, ap}
use native.Mathlib.Omega.{arith}
use borrow.Author.Rules.{rules}
use Rattle.output.specs.Ascii.{ascii}
use Rattle.output.specs.Block.{put_all}
use Rattle.reply_reports.proofs.Texts.{whole_line, no_header_line, cut_short_line, counted_put}
use Rattle.reply_reports.proofs.put_verdict.Goals as goal

pub returns-in-0 : goal.returns-in-0
returns-in-0 c =
    counted_put (ascii "whole ") c.args.bits c.args.out.now (omega arith) c.requires
    (whole_line c.args.verdict c.args.bits c.in-0.is) c.put_line.ensures

pub returns-in-1 : goal.returns-in-1
returns-in-1 c =
    c.put_bytes.ensures
    ∙ ap (put_all c.args.out.now 0) (sym (no_header_line c.args.verdict c.args.bits (let e = c.in-1.is in λ z. omega (arith, z, e)) c.in-1.is))

pub returns-in_default : goal.returns-in_default
returns-in_default c =
    counted_put (ascii "cut short ") c.args.bits c.args.out.now (omega arith) c.requires
    (cut_short_line c.args.verdict c.args.bits (search rules) (search rules)) c.put_line-in_default.ensures
