-- `command_width` is the count of a command's bits, by its kind.
-- Assumes nothing.
use mathlib.Core.Bool.{true}
use mathlib.Core.Path.{◌≡◌, ◌∙◌, sym, ap}
use Prim.Native.Nat.{ℕ, ◌+◌}
use native.Mathlib.Omega.{arith}
use lib.ListN.{length}
use Rattle.orders.specs.declared.Order.{Order}
use Rattle.orders.specs.Fields.{is_frame_kind}
use Rattle.orders.proofs.FitOrders.{fitting, kind_low}
use Rattle.composing.specs.Checked.{SomeFit, FrameFit}
use Rattle.composing.proofs.FitFields.{bits_low}
use Rattle.composing.proofs.CommandParts.{lv1_command, fast_command}
use Rattle.composing.proofs.Widths.{receiver_width, front_end_width, kept_width}
use Rattle.composing.proofs.command_width.Goals as goal

frame_fit : {o : Order} {bytes : ℕ} → SomeFit o bytes → is_frame_kind o.kind ≡ true → FrameFit o bytes
frame_fit some e = record { some = some; frame = e }

pub returns-then-order : goal.returns-then-order
returns-then-order c lent = ap length (lv1_command c.args.order lent c.if-order.true)

pub returns-then-order-2 : goal.returns-then-order-2
returns-then-order-2 c lent = let t = c in ap length (fast_command t.args.order lent t.if-order.false c.if-order-2.true)

pub overflow_add-result : goal.overflow_add-result
overflow_add-result c =
    let t = c in
    let s = t in
    let e : is_frame_kind s.args.order.kind ≡ true = rw t.if-order-eq-WR_RECEIVER.true in
    omega (arith, bits_low (frame_fit s.requires e))

pub returns-then-order-eq-WR_RECEIVER : goal.returns-then-order-eq-WR_RECEIVER
returns-then-order-eq-WR_RECEIVER c lent =
    let t = c in
    receiver_width t.args.order lent t.if-order-eq-WR_RECEIVER.true

pub overflow_mul-result : goal.overflow_mul-result
overflow_mul-result c =
    let t = c in
    let s = t in
    omega (arith, bits_low (frame_fit s.requires (sym t.is_frame_kind.ensures ∙ t.if-is_frame_kind.true)))

pub overflow_add-result-then-is_frame_kind : goal.overflow_add-result-then-is_frame_kind
overflow_add-result-then-is_frame_kind c =
    let t = c in
    let s = t in
    omega (arith, bits_low (frame_fit s.requires (sym t.is_frame_kind.ensures ∙ t.if-is_frame_kind.true)))

pub returns-then-is_frame_kind : goal.returns-then-is_frame_kind
returns-then-is_frame_kind c lent =
    let t = c in
    let k = t in
    let n = k in
    let h = n in
    front_end_width h.args.order lent h.if-order-2.false (sym k.is_frame_kind.ensures ∙ t.if-is_frame_kind.true) n.if-order-eq-WR_RECEIVER.false

pub overflow_cast-order : goal.overflow_cast-order
overflow_cast-order c =
    let some = c.requires in
    omega (arith, kind_low (fitting some.cnt _ _ some.fits))

pub returns : goal.returns
returns c lent =
    let t = c in
    let k = t in
    let h = k in
    ap (λ n. 17 + n) c.length.ensures
    ∙ kept_width h.args.order lent h.if-order-2.false (sym k.is_frame_kind.ensures ∙ t.if-is_frame_kind.false)
