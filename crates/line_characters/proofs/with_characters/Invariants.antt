-- `with_characters` meets its contract, by the three cases of a character: a wrong character, one digit too many, one digit more.
-- Assumes nothing.
use Rattle.line_meanings.proofs.Notes.{noted}
use Rattle.line_meanings.proofs.PartlyRead.{PartlyRead}
use Rattle.line_characters.proofs.with_characters.Given as goal

abbrev pub invariant-loop-character : goal.invariant-loop-character
invariant-loop-character l =
    PartlyRead l.characters (noted l.initial.line l.initial.length l.initial.place l.initial.first) (noted l.line l.length l.place l.first) l.character-index
