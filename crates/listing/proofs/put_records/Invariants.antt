-- `put_records` meets its contract: the records that are left, put at the present place, give what all of them give.
-- Assumes nothing.
use Prim.Native.Nat.{◌*◌, ◌/◌, ◌≤◌}
use lib.ListN.{length, drop}
use Rattle.output.proofs.Pieces.{PartlyPut}
use Rattle.listing.specs.Records.{records_text}
use Rattle.listing.proofs.put_records.Given as goal

abbrev pub invariant-loop-i : goal.invariant-loop-i
invariant-loop-i l =
    (l.i ≤ length l.words / 2)
    × PartlyPut l.initial.out l.at (records_text l.frames l.tray l.words) l.out l.place (records_text l.frames l.tray (drop (2 * l.i) l.words))
