use Rattle.std.proofs.Common.{ℕ, List}
use Rattle.posix.proofs.read_blocks.Given as goal

abbrev pub invariant-loop : goal.invariant-loop
invariant-loop g l = (characters : List ℕ) × g.T.TakesBlocks.took l.initial.taker characters l.taker
