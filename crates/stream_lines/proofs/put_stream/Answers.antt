-- `put_stream` meets its contract: the lines that are left, put at the present place, give what all of them give.
-- Assumes nothing.
use mathlib.Core.Path.{ap, ◌∙◌}
use native.Mathlib.Omega.{arith}
use Rattle.std.proofs.lemmas.List.{nil_from_length}
use Rattle.output.proofs.Pieces.{none_put, next_put_if_fits, all_put}
use Rattle.stream_lines.specs.StreamLines.{lines_from, stream_text}
use Rattle.stream_lines.proofs.Parts.{next_line, part_short}
use Rattle.stream_lines.proofs.put_stream.Goals as goal

pub loop-line-init : goal.loop-line-init
loop-line-init c =
    rw (c.into_iter-line-iterator.ensures.into_iter_gives, c.chunks-line-items.ensures.rest)
    (c.chunks-line-items.ensures.size, none_put _ _ _ (omega (arith, part_short c.args.bytes.now c.requires.0, c.requires.1)))

pub loop-line-preserved : goal.loop-line-preserved
loop-line-preserved c =
    let s = c.in-Some.ensures.steps in
    let size = c.loop-line.invariant.0 in
    let next = next_line _ _ (rw (size, s.1.0) at s.1.1) (rw s.1.0 at s.1.2) in
    (s.0 ∙ size, next_put_if_fits c.loop-line.invariant.1 _ _ (ap stream_text s.1.0 ∙ next) _ _ c.bytes_line-place.ensures)

pub returns : goal.returns
unfolding lines_from
returns c = all_put c.loop-line.invariant.1 (ap stream_text (nil_from_length _ c.in-None.ensures.steps.1.0))
