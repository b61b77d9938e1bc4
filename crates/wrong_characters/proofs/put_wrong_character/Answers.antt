-- `put_wrong_character` meets its contract: the character's place, and what it is.
-- Assumes nothing.
use mathlib.Core.Path.{◌∙◌}
use native.Mathlib.Omega.{arith}
use lib.ListN.{length-append}
use Rattle.output.specs.Ascii.{ascii}
use Rattle.output.proofs.Pieces.{put_append, put_room}
use Rattle.decimal_digits.specs.Decimal.{labelled}
use Rattle.wrong_characters.specs.WrongCharacters.{character_text}
use Rattle.wrong_characters.proofs.put_wrong_character.Goals as goal

pub put_labelled-place-requires : goal.put_labelled-place-requires
put_labelled-place-requires c =
    let n = c.args.notes in
    omega (arith, c.requires, length-append (labelled (ascii "character ") n.place (ascii " is ")) (character_text n.character))

pub put_character-requires : goal.put_character-requires
put_character-requires c =
    let n = c.args.notes in
    put_room _ (labelled (ascii "character ") n.place (ascii " is ")) (character_text n.character) _ _ _ c.put_labelled-place.ensures c.requires

pub returns : goal.returns
returns c =
    let n = c.args.notes in
    c.put_character.ensures
    ∙ put_append _ (labelled (ascii "character ") n.place (ascii " is ")) (character_text n.character) _ _ _ c.put_labelled-place.ensures
