-- `compose` refuses, or writes the stream.
-- Assumes nothing.
use Rattle.std.proofs.Common.{rules, Err}
use mathlib.Core.Path.{◌≡◌, ◌∙◌, sym, ap}
use native.Mathlib.Omega.{arith}
use lib.ListN.{length}
use Rattle.orders.specs.Composed.{Composed}
use Rattle.orders.specs.Fields.{orders_in}
use Rattle.orders.specs.Composing.{room_fits, compose_result}
use Rattle.compose_calls.specs.Answers.{answered}
use Rattle.compose_calls.proofs.Composed.{error_some, wrong_plan, refused, all_fit, too_long, room, whole}
use Rattle.compose_calls.proofs.compose.Goals as goal

pub returns-then-not-fits : goal.returns-then-not-fits
returns-then-not-fits c =
    let a = c.args in wrong_plan a.plan (orders_in a.frames.now a.words.now) a.out.now (sym c.fits.ensures ∙ c.if-not-fits.true)

pub returns-in_err-bits : goal.returns-in_err-bits
returns-in_err-bits c =
    let a = c.args in
    let error = c.in_err-bits.field-0.0 in
    let is : c.from_residual.result ≡ Err error = search rules in
    ap (λ (r : Composed). compose_result r a.out.now) (ap answered is ∙ c.in_err-bits.ensures)
    ∙ refused a.plan (orders_in a.frames.now a.words.now) a.out.now (sym c.fits.ensures ∙ c.if-not-fits.false)
    (λ z. error_some error (ap (λ (r : Composed). r.number) c.in_err-bits.ensures ∙ z))

pub returns-then-not-room_fits : goal.returns-then-not-room_fits
returns-then-not-room_fits c =
    let a = c.args in
    let checked = sym c.in_ok-bits.ensures in
    too_long a.plan (orders_in a.frames.now a.words.now) a.out.now (sym c.fits.ensures ∙ c.if-not-fits.false) (ap (λ (r : Composed). r.number) checked)
    (ap (λ (r : Composed). room_fits r.bits (length a.out.now)) checked ∙ sym c.room_fits.ensures ∙ c.if-not-room_fits.true)

pub put_orders-writer-requires : goal.put_orders-writer-requires
put_orders-writer-requires c =
    let a = c.args in
    let xs = orders_in a.frames.now a.words.now in
    let checked = sym c.in_ok-bits.ensures in
    let fit = sym c.fits.ensures ∙ c.if-not-fits.false in
    let none = ap (λ (r : Composed). r.number) checked in
    let space = ap (λ (r : Composed). room_fits r.bits (length a.out.now)) checked ∙ sym c.room_fits.ensures ∙ c.if-not-room_fits.false in
    (all_fit a.plan xs a.out.now fit none, room a.plan xs a.out.now fit none space)

pub finish-requires : goal.finish-requires
finish-requires c =
    let a = c.args in
    let xs = orders_in a.frames.now a.words.now in
    let checked = sym c.in_ok-bits.ensures in
    let fit = sym c.fits.ensures ∙ c.if-not-fits.false in
    let none = ap (λ (r : Composed). r.number) checked in
    let space = ap (λ (r : Composed). room_fits r.bits (length a.out.now)) checked ∙ sym c.room_fits.ensures ∙ c.if-not-room_fits.false in
    let w = c.put_orders-writer.ensures in
    (w.fits, omega (arith, w.place, w.long, room a.plan xs a.out.now fit none space))

pub returns : goal.returns
returns c =
    let a = c.args in
    let xs = orders_in a.frames.now a.words.now in
    let checked = sym c.in_ok-bits.ensures in
    let fit = sym c.fits.ensures ∙ c.if-not-fits.false in
    let none = ap (λ (r : Composed). r.number) checked in
    let space = ap (λ (r : Composed). room_fits r.bits (length a.out.now)) checked ∙ sym c.room_fits.ensures ∙ c.if-not-room_fits.false in
    (λ i. compose_result (c.in_ok-bits.ensures i) (c.finish.ensures i)) ∙ whole a.plan xs a.out.now fit none space _ _ c.put_orders-writer.ensures
