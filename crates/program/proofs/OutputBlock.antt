-- What is put into the output's block, and what is still to come.
-- Assumes nothing.
use Rattle.std.proofs.Common.{◌≡◌, ℕ, ◌+◌, ◌≤◌, List, length, take, append_assoc}
use Rattle.output.specs.Block.{block, put_all}
use Rattle.output.proofs.Pieces.{put_prefix}
use Rattle.program.specs.Listing.{Outcome, print_first}

pub put_then : (out text out' : List ℕ) (at next : ℕ) → block out' next ≡ put_all out at text → at + length text ≤ length out
    → (o : Outcome) → print_first (take next out') o ≡ print_first (take at out) (print_first text o)
put_then out text out' at next e h o = rw (put_prefix out text out' at next e h, append_assoc)
