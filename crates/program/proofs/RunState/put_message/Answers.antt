-- `program::RunState::put_message` meets its contract: the sentence fits the block.
-- Assumes nothing.
use Rattle.std.proofs.Common.{arith}
use Rattle.messages.proofs.Lengths.{sentence_short}
use Rattle.program.proofs.RunState.put_message.Goals as goal

pub put_sentence-requires : goal.put_sentence-requires
put_sentence-requires c = omega (arith, sentence_short c.args.self.number c.args.self.lines c.args.self.line.notes, c.requires)
