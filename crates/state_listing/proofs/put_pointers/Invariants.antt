-- `put_pointers` meets its contract: the pointers that are left, put at the present place, give what all 16 give.
-- Assumes nothing.
use Prim.Native.Nat.{◌-◌, ◌≤◌}
use Rattle.registers.specs.Parts.{pointers}
use Rattle.output.proofs.Pieces.{PartlyPut}
use Rattle.state_listing.specs.State.{fifo_count, texts_from, pointers_text, all_pointers_text}
use Rattle.state_listing.proofs.put_pointers.Given as goal

abbrev pub invariant-loop-i : goal.invariant-loop-i
invariant-loop-i l =
    (l.i ≤ fifo_count)
    × PartlyPut l.initial.out l.at (all_pointers_text (pointers l.writes l.reads)) l.out l.place
    (texts_from (fifo_count - l.i) l.i (pointers_text (pointers l.writes l.reads)))
