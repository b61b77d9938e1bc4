-- `Writer::put_bytes` writes a byte at each turn.
-- Assumes nothing.
use mathlib.Core.Path.{◌≡◌, ap}
use Prim.Native.Nat.{◌*◌, ◌-◌, ◌<◌}
use native.Mathlib.Omega.{arith}
use lib.ListN.{get_or, length-take}
use Rattle.std.proofs.Common.{get_or-take}
use Rattle.bits.specs.Bits.{bits_of}
use Rattle.bits.proofs.BitRanges.{length_bits}
use Rattle.orders.specs.Streams.{number_bits}
use Rattle.stream_writer.proofs.Writing.{nothing_yet, left_as, onward}
use Rattle.stream_writer.proofs.Rests.{room_left, byte_first}
use Rattle.stream_writer.proofs.Writer.put_bytes.Goals as goal

pub loop-byte-init : goal.loop-byte-init
loop-byte-init c =
    let all : c.args.count ≡ c.args.count - 0 = omega arith in
    left_as (ap (λ n. bits_of c.args.bytes.now 0 (8 * n)) all) (nothing_yet c.requires.0)

pub put_byte-writer-requires : goal.put_byte-writer-requires
put_byte-writer-requires c =
    let l = c.loop-byte in
    let bytes = c.args.bytes.now in
    let count = c.args.count in
    let here : l.byte-index < count = omega (arith, length-take count bytes) in
    let room = room_left l.invariant (omega (arith, c.requires.2, length_bits bytes 0 (8 * count))) in
    (l.invariant.fits, omega (arith, room, length_bits bytes (8 * l.byte-index) (8 * (count - l.byte-index))))

pub loop-byte-preserved : goal.loop-byte-preserved
loop-byte-preserved c =
    let l = c.loop-byte in
    let bytes = c.args.bytes.now in
    let count = c.args.count in
    let here : l.byte-index < count = omega (arith, length-take count bytes) in
    onward (number_bits 8 (get_or bytes l.byte-index 0)) _ (left_as (byte_first bytes l.byte-index count here) l.invariant)
    (rw (get_or-take count bytes l.byte-index 0 here) at c.put_byte-writer.ensures)

pub returns : goal.returns
returns c =
    let l = c.loop-byte in
    let none : c.args.count - l.byte-index ≡ 0 = omega (arith, length-take c.args.count c.args.bytes.now) in
    left_as (ap (λ n. bits_of c.args.bytes.now (8 * l.byte-index) (8 * n)) none) l.invariant
