-- `put_reason` puts why a reply is not whole.
-- Assumes nothing.
use mathlib.Core.Path.{◌∙◌, sym, ap}
use native.Mathlib.Omega.{arith}
use lib.ListN.{length-append}
use Rattle.output.specs.Block.{put_all}
use Rattle.output.proofs.Pieces.{put_append, put_room}
use Rattle.reply_reports.proofs.Texts.{no_header_reason, how_many, of_how_many, cut_short_reason, cut_short_fits}
use Rattle.reply_reports.proofs.put_reason.Goals as goal

pub returns-then-verdict-eq-NO_HEADER : goal.returns-then-verdict-eq-NO_HEADER
returns-then-verdict-eq-NO_HEADER c =
    let a = c.args in
    c.put_bytes.ensures ∙ ap (put_all a.out.now 0) (sym (no_header_reason a.verdict a.bits a.expected c.if-verdict-eq-NO_HEADER.true))

pub put_labelled-at-requires : goal.put_labelled-at-requires
put_labelled-at-requires c =
    let a = c.args in
    let fits = cut_short_fits a.bits a.expected a.out.now c.requires in
    omega (arith, fits, length-append (how_many a.bits) (of_how_many a.expected))

pub put_labelled-requires : goal.put_labelled-requires
put_labelled-requires c =
    let a = c.args in
    let fits = cut_short_fits a.bits a.expected a.out.now c.requires in
    put_room _ (how_many a.bits) (of_how_many a.expected) _ _ _ c.put_labelled-at.ensures fits

pub returns : goal.returns
returns c =
    let a = c.args in
    let reason = cut_short_reason a.verdict a.bits a.expected c.if-verdict-eq-NO_HEADER.false in
    c.put_labelled.ensures
    ∙ put_append _ (how_many a.bits) (of_how_many a.expected) _ _ _ c.put_labelled-at.ensures
    ∙ ap (put_all a.out.now 0) (sym reason)
