-- `put_command` writes an LV1, a header with a body, or a header with a Slow's body and fields.
-- Assumes nothing.
use mathlib.Core.List.{◌++◌}
use native.Mathlib.Omega.{arith}
use Rattle.orders.specs.Streams.{header_bits, slow_body, slow_fields}
use Rattle.orders.proofs.FitOrders.{fitting, fast_above}
use Rattle.stream_writer.proofs.Writing.{in_other_words, both_parts}
use Rattle.composing.specs.Checked.{ordered}
use Rattle.composing.proofs.Rooms.{room_as, second_room}
use Rattle.composing.proofs.CommandParts.{lv1_command, fast_command, slow_command, command_long}
use Rattle.composing.proofs.put_command.Goals as goal

pub put_number-requires : goal.put_number-requires
put_number-requires c =
    let t = c in
    let s = t in
    let a = s.args in
    let room = room_as a.writer a.out.now (lv1_command a.order a.lent.now t.if-order.true) s.requires.2 in
    (s.requires.0, omega arith, omega (arith, room))

pub returns-then-order : goal.returns-then-order
returns-then-order c =
    let w = c in
    let t = w in
    let a = t.args in
    in_other_words (lv1_command a.order a.lent.now t.if-order.true) w.put_number.ensures

pub put_number-header-requires : goal.put_number-header-requires
put_number-header-requires c =
    let t = c in
    let s = t in
    (s.requires.0, omega arith, omega (arith, s.requires.2, command_long s.args.order s.args.lent.now t.if-order.false))

pub overflow_sub-order : goal.overflow_sub-order
overflow_sub-order c =
    let t = c in
    let l = t in
    let some = l.requires.1 in
    fast_above (fitting some.cnt _ _ some.fits) l.if-order.false t.if-order-2.true

pub put_number-requires-then-order-2 : goal.put_number-requires-then-order-2
put_number-requires-then-order-2 c =
    let h = c in
    let l = h in
    let s = l in
    let w = h.put_number-header.ensures in
    (w.fits, omega arith, omega (arith, s.requires.2, w.place, w.long, command_long s.args.order s.args.lent.now l.if-order.false))

pub returns-then-order-2 : goal.returns-then-order-2
returns-then-order-2 c =
    let b = c in
    let t = b in
    let h = t in
    let l = h in
    let a = l.args in
    in_other_words (fast_command a.order a.lent.now l.if-order.false t.if-order-2.true) (both_parts _ _ h.put_number-header.ensures b.put_number-then-order-2.ensures)

pub put_number-body-requires : goal.put_number-body-requires
put_number-body-requires c =
    let h = c in
    let l = h in
    let s = l in
    let w = h.put_number-header.ensures in
    (w.fits, omega arith, omega (arith, s.requires.2, w.place, w.long, command_long s.args.order s.args.lent.now l.if-order.false))

pub put_fields-requires : goal.put_fields-requires
put_fields-requires c =
    let b = c in
    let t = b in
    let h = t in
    let s = h in
    let a = s.args in
    let x = ordered a.order a.lent.now in
    let all = room_as a.writer a.out.now (slow_command a.order a.lent.now t.if-order-2.false) s.requires.2 in
    let behind = second_room a.writer a.out.now header_bits (slow_body ++ slow_fields x) all _ _ h.put_number-header.ensures in
    let w = b.put_number-body.ensures in
    (w.fits, record { some = s.requires.1; slow = t.if-order-2.false }, second_room _ _ slow_body (slow_fields x) behind _ _ w)

pub returns : goal.returns
returns c =
    let f = c in
    let b = f in
    let t = b in
    let h = t in
    let a = h.args in
    in_other_words (slow_command a.order a.lent.now t.if-order-2.false)
    (both_parts _ _ h.put_number-header.ensures (both_parts _ _ b.put_number-body.ensures f.put_fields.ensures))
