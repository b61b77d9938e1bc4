-- `Gathered::with_character` meets its contract: the character is kept, or only that there is one more.
-- Assumes nothing.
use Rattle.gathered_lines.proofs.Gathering.{kept_out, kept}
use Rattle.gathered_lines.proofs.Gathered.with_character.Goals as goal

pub returns-then-n-ge-LINE_LIMIT : goal.returns-then-n-ge-LINE_LIMIT
returns-then-n-ge-LINE_LIMIT c = kept_out _ _ c.requires.0 c.requires.1 _ c.requires.2 c.if-n-ge-LINE_LIMIT.true

pub returns : goal.returns
returns c = kept _ _ c.requires.0 c.requires.1 _ c.requires.2 c.if-n-ge-LINE_LIMIT.false
