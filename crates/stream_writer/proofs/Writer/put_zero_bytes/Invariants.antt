-- `Writer::put_zero_bytes` writes a byte of zeros at each turn.
-- Assumes nothing.
use Prim.Native.Nat.{◌*◌}
use Rattle.orders.specs.Streams.{zeros}
use Rattle.stream_writer.specs.Writer.{Wrote}
use Rattle.stream_writer.proofs.Writer.put_zero_bytes.Given as goal

abbrev pub invariant-loop : goal.invariant-loop
invariant-loop l = Wrote l.initial.writer l.initial.out (zeros (8 * l.counter)) l.writer l.out
