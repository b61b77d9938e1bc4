use Rattle.std.proofs.Common.{◌≡◌, length}
use Rattle.output.specs.Block.{block_length}
use Rattle.stream_lines.specs.StreamLines.{part_limit}
use Rattle.compose_ends.proofs.write_stream.Given as goal

abbrev pub invariant-loop-part : goal.invariant-loop-part
invariant-loop-part l = (length l.text ≡ block_length) × (l.part-iterator.size ≡ part_limit)
