-- `Writer::put_zero_bits` writes one at each turn.
-- Assumes nothing.
use Rattle.orders.specs.Streams.{zeros}
use Rattle.stream_writer.specs.Writer.{Wrote}
use Rattle.stream_writer.proofs.Writer.put_zero_bits.Given as goal

abbrev pub invariant-loop : goal.invariant-loop
invariant-loop l = Wrote l.initial.writer l.initial.out (zeros l.counter) l.writer l.out
