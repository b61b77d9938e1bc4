-- `StreamSoFar::end_line` hands on the bits of a line, or refuses it.
-- Assumes nothing.
use Rattle.std.proofs.Common.{◌≡◌, ◌+◌, ◌*◌, ◌≤◌, length, refl, sym, ap, ◌∙◌, subst, arith, rules}
use Rattle.limits.specs.Limits.{clock_limit}
use Rattle.line_meanings.specs.declared.LineSoFar.{LineSoFar}
use Rattle.line_meanings.specs.Line.{line_bytes, hex_number}
use Rattle.line_meanings.specs.Lines.{answer_of, next_line_number}
use Rattle.line_meanings.proofs.FitLines.{refused_numbered, not_refused, line_fits}
use Rattle.hex_streams.specs.SoFar.{refused_at, EndsLine}
use Rattle.hex_streams.proofs.LineEnds.{line_refused, clock_refused, handed_on}
use Rattle.hex_streams.proofs.StreamSoFar.end_line.Goals as goal
use Rattle.hex_streams.proofs.StreamSoFar.end_line.Goals.{In_default}

-- The line is not refused.
right : (c : In_default) → hex_number (answer_of c.args.self.line) ≡ 0
right c = rw (← c.answer.ensures) (not_refused _ c.in_default.not-Err)

pub returns-in-Err : goal.returns-in-Err
returns-in-Err c =
    subst (EndsLine c.args.self c.args.next) (sym c.refused.ensures)
    (line_refused c.args.self c.requires c.args.next _ refl _
    (c.number.ensures ∙ ap hex_number c.in-Err.ensures) (rw c.number.ensures (refused_numbered _)))

pub overflow_mul-count : goal.overflow_mul-count
overflow_mul-count c =
    let few = (line_fits c.args.self.line (right (goal.at.overflow_mul-count c).In_default)).few in
    omega arith

pub returns-then-self-count : goal.returns-then-self-count
returns-then-self-count c =
    let s = c.args.self in
    let long : length s.line.bytes ≡ line_bytes = let known = c.well_formed.0.1.1.0.1.1.1.1.0 in search rules in
    subst (EndsLine s c.args.next)
    (sym (c.refused-then-self-count.ensures
    ∙ ap (λ (l : LineSoFar). refused_at s l (next_line_number s.lines) 6 c.args.next) c.empty.ensures))
    (clock_refused s c.requires c.args.next _ refl (right (goal.at.returns-then-self-count c).In_default) long c.if-self-count.true)

pub returns : goal.returns
returns c =
    let s = c.args.self in
    let long : length s.line.bytes ≡ line_bytes = let known = c.well_formed.0.1.1.0.1.1.1.1.0 in search rules in
    let inside : s.bits + 4 * s.line.digits ≤ clock_limit = omega (arith, c.requires, c.if-self-count.false) in
    handed_on s c.requires c.args.next _ refl (right (goal.at.returns c).In_default) long inside _ c.empty-2.ensures
