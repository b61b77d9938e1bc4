-- `StreamSoFar::read_on` goes on to the next line feed, or to the block's end.
-- Assumes nothing.
use Rattle.hex_streams.proofs.Rest.{line_ended, line_open}
use Rattle.hex_streams.proofs.StreamSoFar.read_on.Goals as goal

pub returns-then-scanned : goal.returns-then-scanned
returns-then-scanned c =
    line_ended c.args.self c.requires.0 c.requires.1 c.args.input.now c.args.at c.requires.2 c.scan-scanned.result c.scan-scanned.ensures
    c.if-scanned.true c.end_line.ensures

pub returns : goal.returns
returns c =
    line_open c.args.self c.requires.0 c.requires.1 c.args.input.now c.args.at c.requires.2 c.scan-scanned.result c.scan-scanned.ensures
    c.if-scanned.false _
