-- `byte_lines::put_byte_digits` meets its contract: the bytes that are left, put at the present place, give what all of them give.
-- Assumes nothing.
use native.Mathlib.Omega.{arith}
use lib.ListN.{drop_of_length-le}
use Rattle.output.proofs.Pieces.{all_put}
use Rattle.byte_lines.specs.ByteLines.{byte_digits}
use Rattle.byte_lines.proofs.BytePieces.{byte_fits, byte_put}
use Rattle.byte_lines.proofs.put_byte_digits.Goals as goal

pub put_digits-requires : goal.put_digits-requires
put_digits-requires c = byte_fits c.args.bytes.now c.loop-byte.byte-index (omega arith) c.loop-byte.invariant

pub loop-byte-preserved : goal.loop-byte-preserved
loop-byte-preserved c = byte_put c.args.bytes.now c.loop-byte.byte-index (omega arith) c.loop-byte.invariant _ (rw c.from.ensures at c.put_digits.ensures)

pub returns : goal.returns
unfolding byte_digits
returns c = all_put c.loop-byte.invariant (rw (drop_of_length-le c.args.bytes.now {i = c.loop-byte.byte-index} (omega arith)))
