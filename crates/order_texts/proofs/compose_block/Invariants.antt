-- `compose_block` meets its contract: at each character, what is still composed is what the whole block's beginning says.
-- Assumes nothing.
use Rattle.order_texts.proofs.BlockLoop.{Invariant}
use Rattle.order_texts.proofs.compose_block.Given as goal

abbrev pub invariant-loop-character : goal.invariant-loop-character
invariant-loop-character l = Invariant l.initial.state l.initial.line l.initial.out l.input l.character-index l.state l.line l.frame l.out
