-- `Judging::judge_line` judges the bits of a fit line.
-- Assumes nothing.
use Rattle.std.proofs.Common.{◌≡◌, ◌+◌, ◌*◌, ◌≤◌, true, length, sym, ap, ◌∙◌, subst, arith, rules, le-leb}
use Rattle.limits.specs.Limits.{clock_limit, input_limit}
use Rattle.bits.specs.Range.{range_fits}
use Rattle.line_meanings.specs.declared.LineSoFar.{LineSoFar}
use Rattle.line_meanings.specs.Line.{line_bytes}
use Rattle.line_meanings.proofs.FitLines.{LineFits, line_fits}
use Rattle.judging.specs.Judging.{refused_at, EndsLine}
use Rattle.judging.proofs.LineEnds.{clock_refused, judged}
use Rattle.judging.proofs.Judging.judge_line.Goals as goal

-- A line's bits are within its bytes.
ranged : (l : LineSoFar) → LineFits l → length l.bytes ≡ line_bytes → range_fits (length l.bytes) 0 (4 * l.digits) ≡ true
ranged l fits long =
    let f = fits.few in
    simp (le-leb (length l.bytes) input_limit (omega arith), le-leb (0 + 4 * l.digits) (8 * length l.bytes) (omega arith))

pub overflow_mul-count : goal.overflow_mul-count
overflow_mul-count c = let f = (line_fits c.args.self.line c.requires.1).few in omega arith

pub returns-then-self-count : goal.returns-then-self-count
returns-then-self-count c =
    let s = c.args.self in
    let long : length s.line.bytes ≡ line_bytes = search rules in
    subst (EndsLine s)
    (sym (c.refused.ensures ∙ ap (λ (l : LineSoFar). refused_at s l c.args.lines 6) c.empty.ensures))
    (clock_refused s c.requires.0 c.args.lines c.requires.2 c.requires.1 long c.if-self-count.true)

pub check-progress-requires : goal.check-progress-requires
check-progress-requires c =
    let w = c.requires.0 in
    let long : length c.args.self.line.bytes ≡ line_bytes = search rules in
    (ranged c.args.self.line (line_fits c.args.self.line c.requires.1) long, omega (arith, w.near, w.clock), w.fits)

pub returns : goal.returns
returns c =
    let s = c.args.self in
    let long : length s.line.bytes ≡ line_bytes = search rules in
    let inside : s.bits + 4 * s.line.digits ≤ clock_limit = let w = c.requires.0.clock in let h = c.if-self-count.false in omega arith in
    judged s c.requires.0 c.args.lines c.requires.2 c.requires.1 long inside c.check-progress.result c.check-progress.ensures _ c.empty-2.ensures
