-- `put_records` meets its contract: the records that are left, put at the present place, give what all of them give.
-- Assumes nothing.
use native.Mathlib.Omega.{arith}
use Rattle.output.proofs.Pieces.{none_put, all_put}
use Rattle.listing.proofs.Records.{record_fits, record_put, records_all}
use Rattle.listing.proofs.put_records.Goals as goal

pub loop-i-init : goal.loop-i-init
loop-i-init c = (omega arith, none_put _ _ _ c.requires)

pub put_record-place-requires : goal.put_record-place-requires
put_record-place-requires c =
    let a = c.args in
    record_fits a.frames a.tray.now a.words.now c.loop-i.i c.loop-i-test.true c.loop-i.invariant.1

pub loop-i-preserved : goal.loop-i-preserved
loop-i-preserved c =
    let a = c.args in (
      omega (arith, c.loop-i-test.true),
      record_put a.frames a.tray.now a.words.now c.loop-i.i c.loop-i-test.true c.loop-i.invariant.1 _ _ c.put_record-place.ensures,
    )

pub returns : goal.returns
returns c =
    let a = c.args in
    all_put c.loop-i.invariant.1 (records_all a.frames a.tray.now a.words.now c.loop-i.i c.loop-i-test.false)
