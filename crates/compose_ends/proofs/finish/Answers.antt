-- `compose_ends::finish`: the message stands in the block of output.
-- Assumes nothing.
use Rattle.std.proofs.Common.{sym, arith}
use lib.Seq.{length-take-le}
use Rattle.output.proofs.Pieces.{put_end_within}
use Rattle.order_messages.proofs.Lengths.{order_short}
use Rattle.order_refusals.specs.Refusals.{refused, message_of}
use Rattle.compose_ends.proofs.finish.Goals as goal

pub slice_bounds-tell-end : goal.slice_bounds-tell-end
slice_bounds-tell-end c =
    let r = refused c.in-Err.refusal in
    put_end_within _ (message_of r) _ 0 _ c.put_message-message.ensures
    (omega (arith, order_short r.reason r.line r.asked r.given, c.write_outcome-written.auto.text, c.requires.1))

pub slice_bounds-tell-end-in-Err : goal.slice_bounds-tell-end-in-Err
slice_bounds-tell-end-in-Err c = sym (length-take-le _ _ (slice_bounds-tell-end c))
