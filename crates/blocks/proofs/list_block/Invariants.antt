-- What the loop over the steps keeps: what is printed in the end, and the length of the block of output.
-- Assumes nothing.
use mathlib.Core.Path.{◌≡◌}
use lib.ListN.{length}
use Rattle.program.specs.RunState.{snapshot, work_left, AfterSteps}
use Rattle.blocks.proofs.list_block.Given as goal

abbrev pub invariant-loop-store : goal.invariant-loop-store
invariant-loop-store l =
    AfterSteps l.frames l.input (snapshot l.initial.state l.initial.store l.initial.tray l.initial.out) (snapshot l.state l.store l.tray l.out)
    × (length l.out ≡ length l.initial.out)

abbrev pub decreases-loop-store : goal.decreases-loop-store
decreases-loop-store l = work_left (length l.input) l.state
