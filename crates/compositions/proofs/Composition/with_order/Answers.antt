-- `Composition::with_order` meets its contract: the order is refused, its bits are written, or there is no room for them.
-- Assumes nothing.
use mathlib.Core.Path.{◌∙◌, refl, sym, ap}
use native.Mathlib.Omega.{arith}
use Rattle.std.proofs.Common.{Some, None}
use lib.ListN.{length}
use Rattle.plans.specs.declared.Plan.{Plan}
use Rattle.orders.specs.Composing.{context_after}
use Rattle.composing.specs.Checked.{SomeFit}
use Rattle.order_refusals.specs.Refusals.{Refused}
use Rattle.order_refusals.proofs.Refusals.{unrefused_fits, refused_number}
use Rattle.compositions.proofs.Orders.{order_refused, room_for, order_written, order_beyond}
use Rattle.compositions.proofs.Composition.with_order.Goals as goal

pub returns-in-Some : goal.returns-in-Some
returns-in-Some c =
    order_refused _ _ c.requires _ _ _ (Some c.in-Some.refusal) c.in-Some.ensures (refused_number c.in-Some.refusal) _ c.passed.ensures

pub command_width-width-requires : goal.command_width-width-requires
command_width-width-requires c =
    let a = c.args in
    record {
      cnt = a.self.context.cnt;
      narrow = omega arith;
      fits = unrefused_fits a.self.context a.lines a.order (length a.lent.now)
          (sym (ap (λ (r : Refused). r.number) c.in_default.ensures));
    }

pub after-next-requires : goal.after-next-requires
after-next-requires c =
    let a = c.args in
    unrefused_fits a.self.context a.lines a.order (length a.lent.now)
    (sym (ap (λ (r : Refused). r.number) c.in_default.ensures))

pub put_order-written-requires : goal.put_order-written-requires
put_order-written-requires c =
    let a = c.args in
    let fit : SomeFit a.order (length a.lent.now) = record {
      cnt = a.self.context.cnt;
      narrow = omega arith;
      fits = unrefused_fits a.self.context a.lines a.order (length a.lent.now)
          (sym (ap (λ (r : Refused). r.number) c.in_default.ensures));
    } in (
      c.requires.fits,
      fit,
      room_for a.self _ c.requires a.lines a.order a.lent.now None c.in_default.ensures refl _ _ _
          c.command_width-width.ensures c.add_bits-ahead.ensures c.add_bits-bits.ensures _
          (c.after-next.ensures ∙ ap (λ (p : Plan). context_after p a.self.context a.order) c.default_plan.ensures)
          _ c.empty.ensures (sym c.room_fits.ensures ∙ c.if-room_fits.true),
    )

pub returns-then-room_fits : goal.returns-then-room_fits
returns-then-room_fits c =
    let a = c.args in
    order_written a.self _ c.requires a.lines a.order a.lent.now None c.in_default.ensures refl _ _ _
    c.command_width-width.ensures c.add_bits-ahead.ensures c.add_bits-bits.ensures _
    (c.after-next.ensures ∙ ap (λ (p : Plan). context_after p a.self.context a.order) c.default_plan.ensures)
    _ c.empty.ensures (sym c.room_fits.ensures ∙ c.if-room_fits.true) _ _ c.put_order-written.ensures

pub returns-else-room_fits : goal.returns-else-room_fits
returns-else-room_fits c =
    let a = c.args in
    order_beyond a.self _ c.requires a.lines a.order a.lent.now None c.in_default.ensures refl _ _ _
    c.command_width-width.ensures c.add_bits-ahead.ensures c.add_bits-bits.ensures _
    (c.after-next.ensures ∙ ap (λ (p : Plan). context_after p a.self.context a.order) c.default_plan.ensures)
    _ c.empty.ensures (sym c.room_fits.ensures ∙ c.if-room_fits.false)
