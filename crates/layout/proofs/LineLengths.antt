-- How many bytes a line of the listing takes.
-- Assumes nothing.
use mathlib.Core.List.{[]}
use mathlib.Core.Path.{◌≡◌, refl}
use Prim.Native.Nat.{ℕ}
use lib.ListN.{length}
use Rattle.number_lines.proofs.LineLengths.{line_length}
use Rattle.layout.specs.ListingLines.{record_line}

-- A record's line has 28 bytes.
pub record_line_length : (head value : ℕ) → length (record_line head value) ≡ 28
record_line_length head value = line_length [] _ _ refl
