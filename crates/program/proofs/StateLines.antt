-- The lines of the state fit a block.
-- Assumes nothing.
use Rattle.std.proofs.Common.{◌≡◌, ℕ, ◌≤◌, List, length, arith}
use Rattle.bits.proofs.Truth.{choice}
use Rattle.limits.specs.Limits.{store_length}
use Rattle.decoder.specs.declared.Decoder.{Decoder}
use Rattle.output.specs.Block.{block_length}
use Rattle.state_listing.proofs.State.{state_fits_block}
use Rattle.program.specs.declared.PrintOptions.{PrintOptions}
use Rattle.program.specs.Listing.{state_lines}

pub state_lines_fit : (prints : PrintOptions) (d : Decoder) (store : List ℕ) → length store ≡ store_length → length (state_lines prints d store) ≤ block_length
unfolding state_lines
state_lines_fit prints d store words =
    choice (λ (l : List ℕ). length l ≤ block_length) prints.state (λ _. state_fits_block d store words) (λ _. omega arith)
