-- `program::RunState::end_line` meets its contract: a refused line's line, or the line's bits to take.
-- Assumes nothing.
use Rattle.std.proofs.Common.{◌≡◌, refl, length, sym, ap, ◌∙◌, arith, rules}
use Rattle.line_meanings.specs.Line.{line_bytes, hex_number}
use Rattle.line_meanings.specs.Lines.{answer_of}
use Rattle.line_meanings.proofs.FitLines.{refused_numbered, not_refused, line_fits}
use Rattle.program.proofs.LineEnd.{line_refused, line_accepted}
use Rattle.program.proofs.RunState.end_line.Goals as goal
use Rattle.program.proofs.RunState.end_line.Goals.{Start, In_default}

long : (s : Start) → length s.args.self.line.bytes ≡ line_bytes
long s = let known = s.well_formed.0.1.1.1.0.1.1.1.1.0 in search rules

-- The line is not refused.
right : (c : In_default) → 0 ≡ hex_number (answer_of c.args.self.line)
right c = rw (← c.answer.ensures) (sym (not_refused _ c.in_default.not-Err))

pub returns-in-Err : goal.returns-in-Err
returns-in-Err c =
    λ frames store tray t none.
    let numbered = c.number-number.ensures ∙ ap hex_number c.in-Err.ensures in
    line_refused frames (record { ready = t; counted = c.wrapping_add_u64.ensures.value; numbered = numbered })
    (rw c.number-number.ensures (refused_numbered _)) _ _ c.refused_line.ensures

pub overflow_mul-next : goal.overflow_mul-next
overflow_mul-next c =
    let few = (line_fits c.args.self.line (sym (right (goal.at.overflow_mul-next c).In_default))).few in
    omega arith

pub returns : goal.returns
returns c =
    λ frames store tray t none.
    let numbered = right (goal.at.returns c).In_default in
    line_accepted frames (record { ready = t; counted = c.wrapping_add_u64.ensures.value; numbered = numbered }) refl _
    c.empty-next.ensures (long (goal.at.returns c).Start)
