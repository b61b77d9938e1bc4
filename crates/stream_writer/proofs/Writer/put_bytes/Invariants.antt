-- `Writer::put_bytes` writes a byte at each turn.
-- Assumes nothing.
use Prim.Native.Nat.{◌*◌, ◌-◌}
use Rattle.bits.specs.Bits.{bits_of}
use Rattle.stream_writer.specs.Writer.{Written}
use Rattle.stream_writer.proofs.Writer.put_bytes.Given as goal

abbrev pub invariant-loop-byte : goal.invariant-loop-byte
invariant-loop-byte l =
    Written l.initial.writer l.initial.out (bits_of l.bytes 0 (8 * l.count)) l.writer l.out (bits_of l.bytes (8 * l.byte-index) (8 * (l.count - l.byte-index)))
