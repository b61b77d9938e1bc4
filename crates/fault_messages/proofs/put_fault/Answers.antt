-- `put_fault` meets its contract: the place, and why the pattern is at fault.
-- Assumes nothing.
use mathlib.Core.Path.{◌∙◌}
use native.Mathlib.Omega.{arith}
use lib.ListN.{length-append}
use Rattle.output.specs.Ascii.{ascii}
use Rattle.output.proofs.Pieces.{put_append, put_room}
use Rattle.decimal_digits.specs.Decimal.{labelled}
use Rattle.fault_messages.specs.FaultSentences.{fault_reason}
use Rattle.fault_messages.proofs.put_fault.Goals as goal

pub put_labelled-next-requires : goal.put_labelled-next-requires
put_labelled-next-requires c =
    let a = c.args in
    omega (arith, c.requires, length-append (labelled (ascii "bit ") a.place (ascii ": ")) (fault_reason a.number))

pub put_fault_reason-requires : goal.put_fault_reason-requires
put_fault_reason-requires c =
    let a = c.args in
    put_room _ (labelled (ascii "bit ") a.place (ascii ": ")) (fault_reason a.number) _ _ _ c.put_labelled-next.ensures c.requires

pub returns : goal.returns
returns c =
    let a = c.args in
    c.put_fault_reason.ensures ∙ put_append _ (labelled (ascii "bit ") a.place (ascii ": ")) (fault_reason a.number) _ _ _ c.put_labelled-next.ensures
