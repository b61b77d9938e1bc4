-- `number_lines::put_fields` meets its contract: the numbers that are left, put at the present place, give what all of them give.
-- Assumes nothing.
use lib.ListN.{drop}
use Rattle.output.proofs.Pieces.{PartlyPut}
use Rattle.number_lines.specs.NumberLines.{fields_text}
use Rattle.number_lines.proofs.put_fields.Given as goal

abbrev pub invariant-loop-i : goal.invariant-loop-i
invariant-loop-i l = PartlyPut l.initial.out l.at (fields_text l.fields) l.out l.place (fields_text (drop l.i l.fields))
