-- `put_fields` writes Fields 3, 4 and 5, one after the other.
-- Assumes nothing.
use mathlib.Core.Path.{ap}
use Rattle.orders.specs.Streams.{number_bits}
use Rattle.stream_writer.proofs.Writing.{in_other_words, both_parts}
use Rattle.composing.proofs.put_fields.Goals as goal

pub returns : goal.returns
returns c =
    let five = c in
    let four = five in
    let address = four in
    let three = address in
    both_parts _ _ three.put_number-field3.ensures
    (both_parts _ _ (in_other_words (ap (number_bits 4) address.field4.ensures) four.put_number-field4.ensures) five.put_field5.ensures)
