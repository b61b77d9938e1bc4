-- `Refusal::put_message` puts the sentence of a refusal.
-- Assumes nothing.
use native.Mathlib.Omega.{arith}
use Rattle.order_messages.specs.OrderSentences.{reason_number, asked_of, given_of}
use Rattle.order_messages.proofs.Lengths.{order_short}
use Rattle.order_refusals.proofs.Refusal.put_message.Goals as goal

pub put_reason-requires : goal.put_reason-requires
put_reason-requires c =
    let r = c.in-Line.reason in
    omega (arith, order_short (reason_number r) c.in-Line.line (asked_of r) (given_of r), c.requires)

pub put_order-requires : goal.put_order-requires
put_order-requires c = omega (arith, order_short 7 0 0 0, c.requires)
