-- `number_lines::put_fields` meets its contract: the numbers that are left, put at the present place, give what all of them give.
-- Assumes nothing.
use native.Mathlib.Omega.{arith}
use lib.ListN.{drop_of_length-le}
use Rattle.output.proofs.Pieces.{all_put}
use Rattle.number_lines.specs.NumberLines.{numbers_line}
use Rattle.number_lines.proofs.NumberPieces.{field_fits, field_put}
use Rattle.number_lines.proofs.put_fields.Goals as goal

pub put_number-place-requires : goal.put_number-place-requires
put_number-place-requires c = field_fits c.args.fields.now c.loop-i.i _ (omega arith) c.loop-i.invariant

pub loop-i-preserved : goal.loop-i-preserved
loop-i-preserved c =
    let put = rw c.separator-end.ensures at c.put_number-place.ensures in
    field_put c.args.fields.now c.loop-i.i _ (omega arith) c.loop-i.invariant _ _ put

pub returns : goal.returns
unfolding numbers_line
returns c = all_put c.loop-i.invariant (rw (drop_of_length-le c.args.fields.now {i = c.loop-i.i} (omega arith)))
