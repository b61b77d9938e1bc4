-- `put_digits` meets its contract: the bytes of the digits that are left, put at the present place, give what all of them give.
-- Assumes nothing.
use Prim.Native.Nat.{◌*◌}
use lib.ListN.{drop}
use Rattle.output.proofs.Pieces.{PartlyPut}
use Rattle.text_frames.specs.Frames.{bytes_of}
use Rattle.text_frames.proofs.put_digits.Given as goal

abbrev pub invariant-loop-n : goal.invariant-loop-n
invariant-loop-n l = PartlyPut l.initial.bytes 0 (bytes_of l.digits) l.bytes l.n (bytes_of (drop (2 * l.n) l.digits))
