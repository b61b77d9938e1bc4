-- `Judging::end_line` refuses a line, or judges its bits.
-- Assumes nothing.
use Rattle.std.proofs.Common.{refl, sym, ap, ◌∙◌, subst}
use Rattle.line_meanings.specs.Line.{hex_number}
use Rattle.line_meanings.proofs.FitLines.{refused_numbered, not_refused}
use Rattle.judging.specs.Judging.{EndsLine}
use Rattle.judging.proofs.LineEnds.{line_refused}
use Rattle.judging.proofs.Judging.end_line.Goals as goal

pub returns-in-Err : goal.returns-in-Err
returns-in-Err c =
    let s = c.args.self in
    subst (EndsLine s) (sym c.refused.ensures)
    (line_refused s c.requires _ refl _
    (c.number.ensures ∙ ap hex_number c.in-Err.ensures) (rw c.number.ensures (refused_numbered _)))

pub judge_line-requires : goal.judge_line-requires
judge_line-requires c =
    (c.requires, rw (← c.answer.ensures) (not_refused _ c.in_default.not-Err), refl)
