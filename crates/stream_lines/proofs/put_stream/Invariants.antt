-- `put_stream` meets its contract: the lines that are left, put at the present place, give what all of them give.
-- Assumes nothing.
use mathlib.Core.Path.{◌≡◌}
use Rattle.output.proofs.Pieces.{PartlyPut}
use Rattle.stream_lines.specs.StreamLines.{stream_text}
use Rattle.stream_lines.proofs.put_stream.Given as goal

abbrev pub invariant-loop-line : goal.invariant-loop-line
invariant-loop-line l =
    (l.line-iterator.size ≡ 32) × PartlyPut l.initial.out 0 (stream_text l.bytes) l.out l.place (stream_text l.line-iterator.rest.now)
