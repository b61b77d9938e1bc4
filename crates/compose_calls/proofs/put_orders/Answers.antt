-- `put_orders` writes one order after another.
-- Assumes nothing.
use Rattle.std.proofs.Common.{rules}
use mathlib.Core.List.{◌∷◌}
use mathlib.Core.Path.{◌≡◌, ◌∙◌, sym, subst}
use native.Mathlib.Omega.{arith}
use Rattle.std.specs.Slice.Iter.{chunks_rest}
use Rattle.orders.specs.Fields.{orders_in}
use Rattle.orders.specs.Streams.{stream_of}
use Rattle.stream_writer.specs.declared.Writer.{Writer}
use Rattle.stream_writer.specs.Writer.{start, Fits, Wrote}
use Rattle.composing.specs.Checked.{ordered, Room}
use Rattle.compose_calls.proofs.OrderLists.{orders_apart}
use Rattle.compose_calls.proofs.PutLoop.{initially, this_fit, this_room, again, over}
use Rattle.compose_calls.proofs.put_orders.Goals as goal
use Rattle.compose_calls.proofs.put_orders.Goals.{After-lent_from-lent}

start_fits : Fits start
start_fits = record { part = omega arith; held = omega arith }

pub loop-order_words-init : goal.loop-order_words-init
loop-order_words-init c =
    let all : chunks_rest c.into_iter-order_words-iterator.result ≡ c.args.words.now = search rules in
    (search rules, rw all (initially c.requires.0 (rw c.start-writer.ensures start_fits)))

-- The first order that is left, and the others.
apart : (c : After-lent_from-lent) → orders_in c.args.frames.now (chunks_rest c.loop-order_words.order_words-iterator)
    ≡ ordered c.read_order-order.result c.lent_from-lent.result.now ∷ orders_in c.args.frames.now (chunks_rest c.next.new.self)
apart c =
    let step = c.in-Some.ensures.steps.1 in
    let long = rw c.loop-order_words.invariant.0 at step.1 in
    orders_apart c.args.frames.now (record { parts = step.0; long = long; some = step.2 }) _ _ c.read_order-order.ensures c.lent_from-lent.ensures

pub put_order-writer-requires : goal.put_order-writer-requires
put_order-writer-requires c =
    let i = c.loop-order_words.invariant.1 in
    let os = orders_in c.args.frames.now c.args.words.now in
    let room = subst (λ (w : Writer). Room w c.args.out.now (stream_of os)) (sym c.start-writer.ensures) c.requires.1 in
    let here = (goal.at.put_order-writer-requires c).After-lent_from-lent in
    (i.written.fits, this_fit _ i _ _ (apart here), this_room _ i _ _ (apart here) room)

pub loop-order_words-preserved : goal.loop-order_words-preserved
loop-order_words-preserved c =
    let here = (goal.at.loop-order_words-preserved c).After-lent_from-lent in
    (c.in-Some.ensures.steps.0 ∙ c.loop-order_words.invariant.0, again _ c.loop-order_words.invariant.1 _ _ (apart here) _ _ c.put_order-writer.ensures)

pub returns : goal.returns
returns c =
    let a = c.args in
    subst (λ (w : Writer). Wrote w a.out.now (stream_of (orders_in a.frames.now a.words.now)) c.loop-order_words.writer c.loop-order_words.out)
    c.start-writer.ensures (over c.loop-order_words.invariant.1 c.in-None.ensures.steps.1.0)
