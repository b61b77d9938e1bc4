-- `read_number` meets its contract: what is left of the word stands for the number of all of it.
-- Assumes nothing.
use Rattle.text_numbers.proofs.Numbers.{NumberLeft}
use Rattle.text_numbers.proofs.read_number.Given as goal

abbrev pub invariant-loop-character : goal.invariant-loop-character
invariant-loop-character l = NumberLeft l.base l.word l.value l.character-index
