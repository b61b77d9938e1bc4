-- `compose_block` meets its contract: a character that ends the line, one that goes on with it, and the run's end.
-- Assumes nothing.
use mathlib.Core.Path.{◌∙◌, refl, sym}
use Rattle.order_texts.proofs.BlockLoop.{line_ended, line_open, at_refusal}
use Rattle.order_texts.proofs.compose_block.Goals as goal
use Rattle.order_texts.proofs.compose_block.Goals.{then-character-eq-LINE_FEED, else-character-eq-LINE_FEED}

pub returns-then-is_over : goal.returns-then-is_over
returns-then-is_over c = at_refusal c.loop-character.invariant (sym c.is_over.ensures ∙ c.if-is_over.true)

pub loop-character-preserved : goal.loop-character-preserved
loop-character-preserved c =
    let i = c.loop-character.invariant in
    let some = c.loop-character-test.true in
    let going = sym c.is_over.ensures ∙ c.if-is_over.false in
    elim c.if-character-eq-LINE_FEED.branch [
      | then-character-eq-LINE_FEED w ↦
          rw (w.line-is, w.frame-is, w.out-is, w.state-is)
          (line_ended i some _ w.end_line-state.auto.frame going w.if-character-eq-LINE_FEED.true _ _ w.end_line-state.ensures)
      | else-character-eq-LINE_FEED w ↦
          rw (w.line-is, w.frame-is, w.out-is, w.state-is)
          (line_open i some _ refl w.if-character-eq-LINE_FEED.false _ _ w.with_character-state.ensures)
    ]
