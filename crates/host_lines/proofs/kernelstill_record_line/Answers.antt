-- `kernelstill_record_line` puts the line at the start, or nothing where it has no room.
-- Assumes nothing.
use Rattle.host_lines.proofs.LineCases.{line_left_out, line_put}
use Rattle.host_lines.proofs.kernelstill_record_line.Goals as goal

pub returns-then-end-eq0 : goal.returns-then-end-eq0
returns-then-end-eq0 c = line_left_out c.args.head c.args.value c.args.line.now _ _ c.record_line-end.ensures c.if-end-eq0.true

pub returns : goal.returns
returns c = line_put c.args.head c.args.value c.args.line.now _ _ c.record_line-end.ensures c.if-end-eq0.false
