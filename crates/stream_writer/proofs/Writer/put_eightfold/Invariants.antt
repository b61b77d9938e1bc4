-- `Writer::put_eightfold` writes a byte of equal bits at each turn, the cursor at the bit.
-- Assumes nothing.
use Prim.Native.Nat.{◌-◌}
use Rattle.bits.specs.Bits.{bits_of}
use Rattle.bits.proofs.Places.{Stands}
use Rattle.orders.specs.Streams.{repeated}
use Rattle.stream_writer.specs.Writer.{Written}
use Rattle.stream_writer.proofs.Writer.put_eightfold.Given as goal

abbrev pub invariant-loop : goal.invariant-loop
invariant-loop l =
    Stands l.at l.counter
    × Written l.initial.writer l.initial.out (repeated 8 (bits_of l.bytes 0 l.count)) l.writer l.out (repeated 8 (bits_of l.bytes l.counter (l.count - l.counter)))
