-- `scan` meets its contract: the characters ahead of the next line feed are those up to the place that `line_end` finds.
-- Assumes nothing.
use native.Mathlib.Nat.{add-zero}
use native.Mathlib.Omega.{arith}
use lib.ListN.{length, drop, drop_of_length-le, length-drop}
use borrow.Author.Tests.{le-ltb}
use Rattle.line_meanings.specs.Lines.{with_characters, up_to_line_feed, scan_of}
use Rattle.line_meanings.proofs.Blocks.{ahead_short, scan_found, scan_missed}
use Rattle.line_scans.proofs.scan.Goals as goal

pub returns-then-block-at : goal.returns-then-block-at
unfolding scan_of up_to_line_feed with_characters
returns-then-block-at c =
    let a = c.args in
    simp (drop_of_length-le a.block.now {i = a.at} (omega arith), add-zero, le-ltb a.at (length a.block.now) (omega arith))

pub slice_bounds-with_characters-end : goal.slice_bounds-with_characters-end
slice_bounds-with_characters-end c =
    let a = c.args in
    omega (arith, ahead_short (drop a.at a.block.now), length-drop a.at a.block.now)

pub returns-then-end-block : goal.returns-then-end-block
returns-then-end-block c = scan_found _ _ _ _ _ c.line_end-end.ensures c.with_characters-line.ensures c.if-end-block.true

pub returns : goal.returns
returns c = scan_missed _ _ _ _ _ c.line_end-end.ensures c.with_characters-line.ensures c.if-end-block.false
