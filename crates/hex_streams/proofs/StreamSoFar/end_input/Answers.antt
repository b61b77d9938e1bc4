-- `StreamSoFar::end_input` ends a line that has begun.
-- Assumes nothing.
use Rattle.std.proofs.Common.{eq-eqb, ne_eqb}
use Rattle.hex_streams.proofs.Rest.{ends_here, ends_line}
use Rattle.hex_streams.proofs.StreamSoFar.end_input.Goals as goal
use Rattle.hex_streams.proofs.StreamSoFar.end_input.Goals.{then-self-ne0-via-then-self-ne0, then-self-ne0-via-else-self-ne0+then-is_empty}

pub returns-then-self-ne0 : goal.returns-then-self-ne0
returns-then-self-ne0 c =
    ends_here c.requires _
    (elim c.then-self-ne0.branch [
      | then-self-ne0-via-then-self-ne0 w ↦ simp (ne_eqb c.args.self.number 0 w.if-self-ne0.true)
      | then-self-ne0-via-else-self-ne0+then-is_empty w ↦ rw (eq-eqb c.args.self.number 0 w.if-self-ne0.false, ← w.is_empty.ensures, w.if-is_empty.true)
    ])

pub returns : goal.returns
returns c =
    ends_line c.requires (rw (eq-eqb c.args.self.number 0 c.if-self-ne0.false, ← c.is_empty.ensures, c.if-is_empty.false)) c.end_line.ensures
