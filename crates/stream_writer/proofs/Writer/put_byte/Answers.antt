-- `Writer::put_byte` writes the bits held with the first of the byte, and holds the others.
-- Assumes nothing.
use native.Mathlib.Omega.{arith}
use Rattle.stream_writer.proofs.Packing.{parts}
use Rattle.stream_writer.proofs.Writing.{one_byte}
use Rattle.stream_writer.proofs.Writer.put_byte.Goals as goal

pub returns : goal.returns
returns c =
    let w = c.args.self in
    let k = parts w.held c.args.byte (omega arith) w.filled c.requires.0.part c.requires.0.held in
    rw k.whole (one_byte _ _ c.requires.0 c.args.byte (omega arith))
