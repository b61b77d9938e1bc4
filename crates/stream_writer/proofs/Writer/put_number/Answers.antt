-- `Writer::put_number` writes a bit at each turn, the highest first.
-- Assumes nothing.
use mathlib.Core.List.{[], ◌∷◌}
use mathlib.Core.Path.{◌≡◌, ap}
use Prim.Native.Nat.{◌-◌, ◌/◌, ◌%◌, ◌^◌}
use native.Mathlib.Omega.{arith}
use Rattle.orders.specs.Streams.{number_bits}
use Rattle.stream_writer.proofs.Writing.{nothing_yet, left_as, onward}
use Rattle.stream_writer.proofs.Rests.{room_left, number_bit, number_length}
use Rattle.stream_writer.proofs.Writer.put_number.Goals as goal

pub loop-place-init : goal.loop-place-init
loop-place-init c = nothing_yet c.requires.0

pub put_bit-writer-requires : goal.put_bit-writer-requires
put_bit-writer-requires c =
    let l = c.loop-place in
    let room = room_left l.invariant (omega (arith, c.requires.2, number_length c.args.width c.args.value)) in
    (l.invariant.fits, omega arith, omega (arith, room, number_length l.place c.args.value))

pub loop-place-preserved : goal.loop-place-preserved
loop-place-preserved c =
    let l = c.loop-place in
    let value = c.args.value in
    onward (value / 2 ^ (l.place - 1) % 2 ∷ []) _ (left_as (number_bit l.place value c.loop-place-test.true) l.invariant) c.put_bit-writer.ensures

pub returns : goal.returns
returns c =
    let none : c.loop-place.place ≡ 0 = omega (arith, c.loop-place-test.false) in
    left_as (ap (λ n. number_bits n c.args.value) none) c.loop-place.invariant
