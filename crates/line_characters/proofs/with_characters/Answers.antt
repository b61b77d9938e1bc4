-- `with_characters` meets its contract, by the three cases of a character: a wrong character, one digit too many, one digit more.
-- Assumes nothing.
use Rattle.std.proofs.Common.{refl, ◌≡◌, get_or, cond, eqb, ◌∙◌, arith, eq-eqb, ne_eqb}
use Rattle.line_meanings.specs.Notes.{one_longer}
use Rattle.line_meanings.proofs.Notes.{noted, wrong_character, too_many, one_more}
use Rattle.line_meanings.proofs.PartlyRead.{next_read, all_read}
use Rattle.line_characters.proofs.with_characters.Goals as goal
use Rattle.line_characters.proofs.with_characters.Goals.{then-place-eq0, else-place-eq0}

pub loop-character-preserved-in_default : goal.loop-character-preserved-in_default
loop-character-preserved-in_default c =
    let l = c.loop-character in
    let so_far = noted l.line l.length l.place l.first in
    let here = get_or c.args.characters.now l.character-index 0 in
    let length = one_longer so_far.notes in
    let place : c.if-place-eq0.place ≡ cond (eqb l.place 0) length l.place =
    elim c.if-place-eq0.branch [
      | then-place-eq0 w ↦ w.place-is ∙ rw (eq-eqb l.place 0 w.if-place-eq0.true)
      | else-place-eq0 w ↦ w.place-is ∙ rw (ne_eqb l.place 0 w.if-place-eq0.false)
    ] in
    let first : c.if-place-eq0.first ≡ cond (eqb l.place 0) here l.first =
    elim c.if-place-eq0.branch [
      | then-place-eq0 w ↦ w.first-is ∙ rw (eq-eqb l.place 0 w.if-place-eq0.true)
      | else-place-eq0 w ↦ w.first-is ∙ rw (ne_eqb l.place 0 w.if-place-eq0.false)
    ] in
    next_read l.invariant (omega arith) _ (wrong_character so_far here c.in_default.ensures _ _ _ refl place first)

pub loop-character-preserved-then-n-ge-DIGIT_LIMIT : goal.loop-character-preserved-then-n-ge-DIGIT_LIMIT
loop-character-preserved-then-n-ge-DIGIT_LIMIT c =
    let l = c.loop-character in
    let so_far = noted l.line l.length l.place l.first in
    next_read l.invariant (omega arith) _
    (too_many so_far (get_or c.args.characters.now l.character-index 0) c.in-Some.ensures.0 _ refl c.if-n-ge-DIGIT_LIMIT.true)

pub loop-character-preserved : goal.loop-character-preserved
loop-character-preserved c =
    let l = c.loop-character in
    let so_far = noted l.line l.length l.place l.first in
    next_read l.invariant (omega arith) _
    (rw c.in-Some.ensures.1
    (one_more so_far (get_or c.args.characters.now l.character-index 0) c.in-Some.ensures.0 _ refl c.if-n-ge-DIGIT_LIMIT.false))

pub returns : goal.returns
returns c = all_read c.loop-character.invariant (omega arith)
