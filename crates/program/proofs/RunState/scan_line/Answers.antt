-- `program::RunState::scan_line` meets its contract, by whether the line is complete.
-- Assumes nothing.
use Rattle.program.specs.RunState.{snapshot}
use Rattle.program.proofs.ScanStep.{ScanMade, scanned_ready, steps_complete, less_complete, steps_incomplete, less_incomplete}
use Rattle.program.proofs.RunState.scan_line.Goals as goal

pub returns-then-scanned : goal.returns-then-scanned
returns-then-scanned c =
    λ frames store tray t none more.
    let m : ScanMade c.args.input.now (snapshot c.args.self store tray c.args.out.now) c.scan-scanned.result =
    record { ready = t; none = none; more = more; result = c.scan-scanned.ensures } in
    let h = c.end_line.ensures frames store tray (scanned_ready m) none in
    (steps_complete m frames c.if-scanned.true h, less_complete m frames c.if-scanned.true h)

pub returns : goal.returns
returns c =
    λ frames store tray t none more.
    let m : ScanMade c.args.input.now (snapshot c.args.self store tray c.args.out.now) c.scan-scanned.result =
    record { ready = t; none = none; more = more; result = c.scan-scanned.ensures } in
    (steps_incomplete m frames c.if-scanned.false, less_incomplete m frames c.if-scanned.false)
