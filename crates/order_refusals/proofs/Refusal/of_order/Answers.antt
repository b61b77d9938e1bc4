-- `Refusal::of_order` meets its contract: none, another count of frame bits, or too few zeros.
-- Assumes nothing.
use mathlib.Core.Path.{◌∙◌, refl}
use native.Mathlib.Omega.{arith}
use Rattle.orders.proofs.FitOrders.{fitting, kind_low}
use Rattle.order_refusals.proofs.Refusals.{none_refused, bits_refused, zeros_refused, not_nine_fits}
use Rattle.order_refusals.proofs.Refusal.of_order.Goals as goal

pub returns-in-Ok : goal.returns-in-Ok
returns-in-Ok c = let a = c.args in none_refused a.context a.line a.order a.bytes 0 c.in-Ok.ensures refl

pub returns-in-Err-WrongOrder : goal.returns-in-Err-WrongOrder
returns-in-Err-WrongOrder c =
    let a = c.args in
    let nine = rw c.in-Err-WrongOrder.field-0-is at c.in-Err-WrongOrder.ensures in
    rw c.frame_count.ensures.0 (bits_refused a.context a.line a.order a.bytes 9 nine (λ z. omega (arith, z)) refl)

pub overflow_cast-order : goal.overflow_cast-order
overflow_cast-order c =
    let a = c.args in
    let ten = rw c.in-Err-TooFewZeros.field-0-is at c.in-Err-TooFewZeros.ensures in
    let fit = not_nine_fits a.context a.order a.bytes (λ z. omega (arith, ten, z)) in
    record { fits = kind_low (fitting a.context.cnt a.order a.bytes fit) }

pub returns-in-Err-TooFewZeros : goal.returns-in-Err-TooFewZeros
returns-in-Err-TooFewZeros c =
    let a = c.args in
    let ten = rw c.in-Err-TooFewZeros.field-0-is at c.in-Err-TooFewZeros.ensures in
    rw c.zeros_asked.ensures
    (zeros_refused a.context a.line a.order a.bytes 10 ten (λ z. omega (arith, z)) (λ z. omega (arith, z)))
