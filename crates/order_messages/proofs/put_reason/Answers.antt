-- `put_reason` meets its contract: the line's number, and why it is refused.
-- Assumes nothing.
use mathlib.Core.Path.{◌∙◌}
use native.Mathlib.Omega.{arith}
use lib.ListN.{length-append}
use Rattle.output.proofs.Pieces.{put_append, put_room}
use Rattle.order_messages.specs.OrderSentences.{reason_text}
use Rattle.order_messages.proofs.Sentences.{ahead, whole}
use Rattle.order_messages.proofs.put_reason.Goals as goal

pub put_labelled-next-requires : goal.put_labelled-next-requires
put_labelled-next-requires c =
    let a = c.args in
    let r = rw (whole a.reason a.line) at c.requires in
    omega (arith, r, length-append (ahead a.line) (reason_text a.reason))

pub put_order_reason-requires : goal.put_order_reason-requires
put_order_reason-requires c =
    let a = c.args in
    put_room _ (ahead a.line) (reason_text a.reason) _ _ _ c.put_labelled-next.ensures (rw (whole a.reason a.line) at c.requires)

pub returns : goal.returns
returns c =
    let a = c.args in
    rw (whole a.reason a.line)
    (c.put_order_reason.ensures ∙ put_append _ (ahead a.line) (reason_text a.reason) _ _ _ c.put_labelled-next.ensures)
