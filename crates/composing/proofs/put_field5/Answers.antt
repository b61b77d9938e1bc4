-- `put_field5` writes a frame's bits, a number, or zeros.
-- Assumes nothing.
use mathlib.Core.Path.{◌∙◌, sym, ap}
use Prim.Native.Nat.{ℕ, ◌-◌, ◌≤◌}
use native.Mathlib.Omega.{arith}
use lib.ListN.{length-replicate}
use Rattle.slow_fields.specs.Slow.{length_of}
use Rattle.orders.specs.Fields.{value_width}
use Rattle.orders.specs.Streams.{number_bits, zeros}
use Rattle.orders.proofs.FitOrders.{fitting, kind_low}
use Rattle.stream_writer.proofs.Writing.{in_other_words}
use Rattle.stream_writer.proofs.Rests.{number_length}
use Rattle.composing.proofs.Rooms.{room_as}
use Rattle.composing.proofs.CommandParts.{frame_field, number_field, zeros_field_lem}
use Rattle.composing.proofs.put_field5.Goals as goal

pub put_frame-requires : goal.put_frame-requires
put_frame-requires c =
    let t = c in
    let s = t in
    let a = s.args in
    let e = sym t.is_frame_kind.ensures ∙ t.if-is_frame_kind.true in
    (s.requires.0, record { some = s.requires.1.some; frame = e }, room_as a.writer a.out.now (frame_field a.order a.lent.now e) s.requires.2)

pub returns-then-is_frame_kind : goal.returns-then-is_frame_kind
returns-then-is_frame_kind c =
    let b = c in
    let t = b in
    let a = t.args in
    in_other_words (frame_field a.order a.lent.now (sym t.is_frame_kind.ensures ∙ t.if-is_frame_kind.true)) b.put_frame.ensures

pub put_number-requires : goal.put_number-requires
put_number-requires c =
    let t = c in
    let w = t in
    let f = w in
    let s = f in
    let a = s.args in
    let width = w.value_width-width.ensures in
    let e = sym f.is_frame_kind.ensures ∙ f.if-is_frame_kind.false in
    let room = room_as a.writer a.out.now (number_field a.order a.lent.now e (omega (arith, width, t.if-width-gt0.true))) s.requires.2 in
    (s.requires.0, omega (arith, width), omega (arith, width, room, number_length (value_width a.order.kind) a.order.value))

pub returns-then-width-gt0 : goal.returns-then-width-gt0
returns-then-width-gt0 c =
    let b = c in
    let t = b in
    let w = t in
    let f = w in
    let a = f.args in
    let width = w.value_width-width.ensures in
    let e = sym f.is_frame_kind.ensures ∙ f.if-is_frame_kind.false in
    in_other_words (ap (λ n. number_bits n a.order.value) width.0 ∙ number_field a.order a.lent.now e (omega (arith, width, t.if-width-gt0.true)))
    b.put_number.ensures

pub overflow_sub-order : goal.overflow_sub-order
overflow_sub-order c = let s = c in omega (arith, s.requires.1.slow)

pub overflow_cast-order : goal.overflow_cast-order
overflow_cast-order c =
    let s = c in
    let some = s.requires.1.some in
    omega (arith, kind_low (fitting some.cnt _ _ some.fits))

pub put_zeros-requires : goal.put_zeros-requires
put_zeros-requires c =
    let l = c in
    let t = l in
    let w = t in
    let f = w in
    let s = f in
    let a = s.args in
    let e = sym f.is_frame_kind.ensures ∙ f.if-is_frame_kind.false in
    let none : value_width a.order.kind ≤ 0 = omega (arith, w.value_width-width.ensures, t.if-width-gt0.false) in
    let room = room_as a.writer a.out.now (zeros_field_lem a.order a.lent.now e none) s.requires.2 in
    (s.requires.0, omega (arith, l.length-zeros.ensures, room, length-replicate {A = ℕ} (length_of (a.order.kind - 32) 0) 0))

pub returns : goal.returns
returns c =
    let b = c in
    let l = b in
    let t = l in
    let w = t in
    let f = w in
    let a = f.args in
    let e = sym f.is_frame_kind.ensures ∙ f.if-is_frame_kind.false in
    in_other_words (ap zeros l.length-zeros.ensures ∙ zeros_field_lem a.order a.lent.now e (omega (arith, w.value_width-width.ensures, t.if-width-gt0.false)))
    b.put_zeros.ensures
