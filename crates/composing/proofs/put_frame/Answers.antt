-- `put_frame` writes a WrReceiver's bytes, or each front-end bit eight times.
-- Assumes nothing.
use Prim.Native.Nat.{◌*◌, ◌/◌}
use native.Mathlib.Omega.{arith}
use Rattle.bits.proofs.BitRanges.{length_bits}
use Rattle.stream_writer.proofs.Writing.{in_other_words}
use Rattle.stream_writer.proofs.Rests.{repeated_length}
use Rattle.composing.proofs.FitFields.{receiver_bytes, bits_low, bits_lent}
use Rattle.composing.proofs.CommandParts.{receiver_field, front_end_field}
use Rattle.composing.proofs.Rooms.{room_as}
use Rattle.composing.proofs.put_frame.Goals as goal

pub put_bytes-requires : goal.put_bytes-requires
put_bytes-requires c =
    let t = c in
    let s = t in
    let a = s.args in
    let e = t.if-order-eq-WR_RECEIVER.true in
    let whole = receiver_bytes s.requires.1 e in
    let room = room_as a.writer a.out.now (receiver_field a.order a.lent.now e whole.0) s.requires.2 in
    (s.requires.0, whole.1, omega (arith, room, length_bits a.lent.now 0 (8 * (a.order.bits / 8))))

pub returns-then-order-eq-WR_RECEIVER : goal.returns-then-order-eq-WR_RECEIVER
returns-then-order-eq-WR_RECEIVER c =
    let b = c in
    let t = b in
    let s = t in
    let e = t.if-order-eq-WR_RECEIVER.true in
    in_other_words (receiver_field s.args.order s.args.lent.now e (receiver_bytes s.requires.1 e).0) b.put_bytes.ensures

pub put_eightfold-requires : goal.put_eightfold-requires
put_eightfold-requires c =
    let t = c in
    let s = t in
    let a = s.args in
    let room = room_as a.writer a.out.now (front_end_field a.order a.lent.now t.if-order-eq-WR_RECEIVER.false) s.requires.2 in (
      s.requires.0,
      omega (arith, bits_low s.requires.1),
      bits_lent s.requires.1,
      omega (arith, room, repeated_length a.lent.now 0 a.order.bits),
    )

pub returns : goal.returns
returns c =
    let b = c in
    let t = b in
    let s = t in
    in_other_words (front_end_field s.args.order s.args.lent.now t.if-order-eq-WR_RECEIVER.false) b.put_eightfold.ensures
