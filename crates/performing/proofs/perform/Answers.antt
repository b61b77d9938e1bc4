-- `perform` is a request performed.
-- Assumes nothing.
use mathlib.Core.Path.{◌≡◌}
use native.Mathlib.Omega.{arith}
use lib.ListN.{length-take, length-drop}
use Rattle.registers.specs.Registers.{cnt_of}
use Rattle.performing.proofs.PerformCases.{with_stamp, present_cnt, silently, recorded}
use Rattle.performing.proofs.ListParts.{two_put}
use Rattle.performing.proofs.perform.Goals as goal

pub returns-in_default : goal.returns-in_default
returns-in_default c =
    let present : c.cnt_after-cnt.result ≡ cnt_of c.args.plan c.act-acted.result.model =
    present_cnt c.args.plan c.args.from c.args.request c.args.time _ _ _ c.act-acted.ensures _ c.requires.clock_limit_value.1 c.cnt_after-cnt.ensures in
    silently _ _ _ _ _ _ _ c.act-acted.ensures _ _ present c.in_default.is

pub flagged-told-requires : goal.flagged-told-requires
flagged-told-requires c =
    let w = with_stamp c.args.plan c.args.from c.args.request c.args.time _ _ _ c.act-acted.ensures _ c.requires.time_lt_clock_limit.2 c.in-Recorded.is in
    (w.low_flags, c.requires.clock_limit_value.0)

pub write_record-requires : goal.write_record-requires
write_record-requires c =
    let w = with_stamp c.args.plan c.args.from c.args.request c.args.time _ _ _ c.act-acted.ensures _ c.requires.time_lt_clock_limit.2 c.in-Recorded.is in
    (rw (c.flagged-told.ensures, w.at_time) c.requires.time_lt_clock_limit.0, simp (length-take, length-drop) (omega (arith, c.requires.time_lt_clock_limit.3)))

pub returns : goal.returns
returns c =
    let present : c.cnt_after-cnt.result ≡ cnt_of c.args.plan c.act-acted.result.model =
    present_cnt c.args.plan c.args.from c.args.request c.args.time _ _ _ c.act-acted.ensures _ c.requires.clock_limit_value.1 c.cnt_after-cnt.ensures in
    recorded _ _ _ _ _ _ _ c.act-acted.ensures _ _ present _ _ _ c.flagged-told.ensures c.of.ensures _ _ c.in-Recorded.is c.is_frame.ensures
    (rw c.write_record.ensures (two_put c.args.list.now c.args.from.at _ _ c.requires.time_lt_clock_limit.3))
