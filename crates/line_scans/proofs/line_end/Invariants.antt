-- `line_end` meets its contract: from each place passed, the characters ahead of the line feed end at the same place.
-- Assumes nothing.
use mathlib.Core.Path.{◌≡◌}
use Prim.Native.Nat.{◌+◌}
use lib.ListN.{length, drop}
use Rattle.line_meanings.specs.Lines.{up_to_line_feed}
use Rattle.line_scans.proofs.line_end.Given as goal

abbrev pub invariant-loop-end : goal.invariant-loop-end
invariant-loop-end l = l.end + length (up_to_line_feed (drop l.end l.block)) ≡ l.at + length (up_to_line_feed (drop l.at l.block))
