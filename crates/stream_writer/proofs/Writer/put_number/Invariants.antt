-- `Writer::put_number` writes a bit at each turn, the highest first.
-- Assumes nothing.
use Rattle.orders.specs.Streams.{number_bits}
use Rattle.stream_writer.specs.Writer.{Written}
use Rattle.stream_writer.proofs.Writer.put_number.Given as goal

abbrev pub invariant-loop-place : goal.invariant-loop-place
invariant-loop-place l = Written l.initial.writer l.initial.out (number_bits l.width l.value) l.writer l.out (number_bits l.place l.value)
