-- `Judging::end_input` ends a line that has begun.
-- Assumes nothing.
use Rattle.judging.proofs.BlockLoop.{ends_here, ends_line}
use Rattle.judging.proofs.Judging.end_input.Goals as goal
use Rattle.judging.proofs.Judging.end_input.Goals.{then-self-via-then-self, then-self-via-else-self+then-is_empty}

pub returns-then-self : goal.returns-then-self
returns-then-self c =
    ends_here c.requires
    (elim c.then-self.branch [
      | then-self-via-then-self w ↦ rw w.if-self.true
      | then-self-via-else-self+then-is_empty w ↦ rw (w.if-self.false, ← w.is_empty.ensures, w.if-is_empty.true)
    ])

pub returns : goal.returns
returns c = ends_line c.requires (rw (c.if-self.false, ← c.is_empty.ensures, c.if-is_empty.false)) c.end_line.ensures
