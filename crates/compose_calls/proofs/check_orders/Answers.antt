-- `check_orders` goes through all orders: the first that is refused, or the count of their bits.
-- Assumes nothing.
use Rattle.std.proofs.Common.{rules}
use mathlib.Core.List.{◌∷◌}
use mathlib.Core.Path.{◌≡◌, ◌∙◌, sym, ap}
use Prim.Native.Nat.{ℕ, ◌+◌}
use Rattle.std.specs.Slice.Iter.{chunks_rest}
use Rattle.orders.specs.Fields.{orders_in}
use Rattle.orders.proofs.OrderByOrder.{number_fits}
use Rattle.composing.specs.Checked.{ordered, capped}
use Rattle.compose_calls.proofs.OrderLists.{orders_apart}
use Rattle.compose_calls.proofs.Composed.{fault_some}
use Rattle.compose_calls.proofs.CheckLoop.{initially, refused, again, over}
use Rattle.compose_calls.proofs.check_orders.Goals as goal
use Rattle.compose_calls.proofs.check_orders.Goals.{After-lent_from-lent}

-- The first order that is left, and the others.
apart : (c : After-lent_from-lent) → orders_in c.args.frames.now (chunks_rest c.loop-number.number-iterator.iter)
    ≡ ordered c.read_order-order.result c.lent_from-lent.result.now ∷ orders_in c.args.frames.now (chunks_rest c.next.new.self.iter)
apart c =
    let step = c.in-Some.ensures.steps.0.1 in
    let long = rw c.loop-number.invariant.0 at step.1 in
    orders_apart c.args.frames.now (record { parts = step.0; long = long; some = step.2 }) _ _ c.read_order-order.ensures c.lent_from-lent.ensures

pub loop-number-init : goal.loop-number-init
loop-number-init c =
    let all : chunks_rest c.into_iter-number-iterator.result.iter ≡ c.args.words.now = search rules in
    let none : c.into_iter-number-iterator.result.count ≡ 0 = search rules in
    (search rules, rw (all, none) (initially _ c.start-context.ensures))

pub returns-in-Err : goal.returns-in-Err
returns-in-Err c =
    rw c.in-Some.ensures.steps.1
    (refused _ c.loop-number.invariant.1 _ _ (apart (goal.at.returns-in-Err c).After-lent_from-lent) _ c.in-Err.ensures (fault_some c.in-Err.fault))

pub after-context-requires : goal.after-context-requires
after-context-requires c = number_fits c.loop-number.context _ _ (sym c.in_default.ensures)

pub command_width-requires : goal.command_width-requires
command_width-requires c = record {
  cnt = c.loop-number.context.cnt;
  narrow = c.loop-number.invariant.1.narrow;
  fits = number_fits c.loop-number.context _ _ (sym c.in_default.ensures);
}

pub loop-number-preserved : goal.loop-number-preserved
loop-number-preserved c =
    let step = c.in-Some.ensures.steps in
    let here = (goal.at.loop-number-preserved c).After-lent_from-lent in (
      step.0.0 ∙ c.loop-number.invariant.0,
      rw step.2
          (again _ c.loop-number.invariant.1 _ _ (apart here) (sym c.in_default.ensures) _ c.command_width.ensures _ _ c.after-context.ensures
          (c.add_bits-bits.ensures ∙ ap (λ (n : ℕ). capped (n + c.command_width.result)) c.add_bits-ahead.ensures)),
    )

pub returns : goal.returns
returns c = over c.loop-number.invariant.1 c.in-None.ensures.steps.0.1.0
