-- `put_registers` meets its contract: the registers that are left, put at the present place, give what all 16 give.
-- Assumes nothing.
use Prim.Native.Nat.{◌-◌, ◌≤◌}
use Rattle.output.proofs.Pieces.{PartlyPut}
use Rattle.state_listing.specs.State.{address_count, texts_from, register_text, all_registers_text}
use Rattle.state_listing.proofs.put_registers.Given as goal

abbrev pub invariant-loop-i : goal.invariant-loop-i
invariant-loop-i l =
    (l.i ≤ address_count)
    × PartlyPut l.initial.out l.at (all_registers_text l.plan l.model) l.out l.place (texts_from (address_count - l.i) l.i (register_text l.plan l.model))
