-- `put_numbers` meets its contract: one labelled number after the other.
-- Assumes nothing.
use mathlib.Core.List.{[]}
use mathlib.Core.Path.{◌∙◌}
use native.Mathlib.Omega.{arith}
use lib.ListN.{length-append}
use Rattle.output.specs.Ascii.{ascii}
use Rattle.output.proofs.Pieces.{put_append, put_room}
use Rattle.decimal_digits.specs.Decimal.{labelled}
use Rattle.order_messages.proofs.put_numbers.Goals as goal

pub put_labelled-place-requires : goal.put_labelled-place-requires
put_labelled-place-requires c =
    let a = c.args in
    omega (arith, c.requires, length-append (labelled a.label.now a.asked a.between.now) (labelled [] a.given (ascii "\n")))

pub put_labelled-requires : goal.put_labelled-requires
put_labelled-requires c =
    let a = c.args in
    put_room _ (labelled a.label.now a.asked a.between.now) (labelled [] a.given (ascii "\n")) _ _ _ c.put_labelled-place.ensures c.requires

pub returns : goal.returns
returns c =
    let a = c.args in
    c.put_labelled.ensures
    ∙ put_append _ (labelled a.label.now a.asked a.between.now) (labelled [] a.given (ascii "\n")) _ _ _ c.put_labelled-place.ensures
