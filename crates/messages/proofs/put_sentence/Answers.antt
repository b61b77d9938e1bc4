-- `put_sentence` meets its contract: the line's number, and why it is refused.
-- Assumes nothing.
use mathlib.Core.Path.{◌∙◌}
use native.Mathlib.Omega.{arith}
use lib.ListN.{length-append}
use Rattle.output.specs.Ascii.{ascii}
use Rattle.output.proofs.Pieces.{put_append, put_room}
use Rattle.decimal_digits.specs.Decimal.{labelled}
use Rattle.messages.specs.Sentences.{reason_of}
use Rattle.messages.proofs.put_sentence.Goals as goal

pub put_labelled-place-requires : goal.put_labelled-place-requires
put_labelled-place-requires c =
    let a = c.args in
    omega (arith, c.requires, length-append (labelled (ascii "line ") a.line (ascii ": ")) (reason_of a.number a.notes))

pub put_reason-requires : goal.put_reason-requires
put_reason-requires c =
    let a = c.args in
    put_room _ (labelled (ascii "line ") a.line (ascii ": ")) (reason_of a.number a.notes) _ _ _ c.put_labelled-place.ensures c.requires

pub returns : goal.returns
returns c =
    let a = c.args in
    c.put_reason.ensures
    ∙ put_append _ (labelled (ascii "line ") a.line (ascii ": ")) (reason_of a.number a.notes) _ _ _ c.put_labelled-place.ensures
