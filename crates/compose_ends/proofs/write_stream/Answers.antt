-- `compose_ends::write_stream`: the text of each part stands in the block.
-- Assumes nothing.
use Rattle.std.proofs.Common.{◌≤◌, length, sym, arith, rules}
use lib.Seq.{length-take-le}
use Rattle.output.proofs.Pieces.{put_end_within}
use Rattle.stream_lines.specs.StreamLines.{stream_text, part_limit}
use Rattle.stream_lines.proofs.Parts.{part_short}
use Rattle.compose_ends.proofs.write_stream.Goals as goal

pub slice_bounds-write_whole-end : goal.slice_bounds-write_whole-end
slice_bounds-write_whole-end c =
    let part = c.in-Some.part.now in
    let few : length part ≤ part_limit = search rules in
    put_end_within c.loop-part.text (stream_text part) _ 0 _ c.put_stream-n.ensures (omega (arith, part_short part few, c.loop-part.invariant.0))

pub slice_bounds-write_whole-end-in-loop-part : goal.slice_bounds-write_whole-end-in-loop-part
slice_bounds-write_whole-end-in-loop-part c = sym (length-take-le _ _ (slice_bounds-write_whole-end c))
