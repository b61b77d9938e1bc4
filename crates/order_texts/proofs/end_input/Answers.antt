-- `end_input` ends a line that has begun.
-- Assumes nothing.
use mathlib.Core.Path.{◌∙◌, sym}
use Rattle.order_texts.proofs.Ends.{ends_over, ends_empty, ends_line}
use Rattle.order_texts.proofs.end_input.Goals as goal
use Rattle.order_texts.proofs.end_input.Goals.{then-is_over-via-then-is_over, then-is_over-via-else-is_over+then-state-eq0}

pub returns-then-is_over : goal.returns-then-is_over
returns-then-is_over c =
    elim c.then-is_over.branch [
      | then-is_over-via-then-is_over w ↦ ends_over c.requires.0 c.requires.1 (sym c.is_over.ensures ∙ w.if-is_over.true)
      | then-is_over-via-else-is_over+then-state-eq0 w ↦ ends_empty c.requires.0 c.requires.1 w.if-state-eq0.true
    ]

pub returns : goal.returns
returns c =
    ends_line c.requires.0 c.requires.1 (sym c.is_over.ensures ∙ c.if-is_over.false) c.if-state-eq0.false _ _ c.end_line.ensures
