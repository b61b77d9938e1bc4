-- `byte_lines::put_byte_digits` meets its contract: the bytes that are left, put at the present place, give what all of them give.
-- Assumes nothing.
use lib.ListN.{drop}
use Rattle.output.proofs.Pieces.{PartlyPut}
use Rattle.byte_lines.specs.ByteLines.{byte_digits}
use Rattle.byte_lines.proofs.put_byte_digits.Given as goal

abbrev pub invariant-loop-byte : goal.invariant-loop-byte
invariant-loop-byte l = PartlyPut l.initial.out l.at (byte_digits l.bytes) l.out l.place (byte_digits (drop l.byte-index l.bytes))
