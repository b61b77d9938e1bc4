-- `end_line` meets its contract: the line is too long, is no order, is blank, or is an order.
-- Assumes nothing.
use Rattle.std.proofs.Common.{refl}
use Rattle.line_ends.proofs.LineEnds.{left_as, fault_reason, too_long, no_order, blank, an_order}
use Rattle.line_ends.proofs.end_line.Goals as goal

pub returns-then-state : goal.returns-then-state
returns-then-state c =
    let s = c.args.state in
    left_as s c.args.line.now _ c.requires.0 _ refl c.passed.ensures (too_long s c.args.line.now _ c.requires.0 _ refl c.if-state.true)

pub returns-in-Err : goal.returns-in-Err
returns-in-Err c =
    let s = c.args.state in
    left_as s c.args.line.now _ c.requires.0 _ refl c.passed-in-Err.ensures
    (no_order s c.args.line.now _ c.requires.0 _ refl c.if-state.false _ c.in-Err.ensures.same (fault_reason c.in-Err.fault) _ c.of_fault.ensures)

pub returns-in-Ok-None : goal.returns-in-Ok-None
returns-in-Ok-None c =
    let s = c.args.state in
    let read = rw c.in-Ok-None.field-0-is at c.in-Ok-None.ensures in
    left_as s c.args.line.now _ c.requires.0 _ refl c.passed-in-Ok-None.ensures
    (blank s c.args.line.now _ c.requires.0 _ refl c.if-state.false _ read.same refl refl)

pub returns-in-Ok-Some : goal.returns-in-Ok-Some
returns-in-Ok-Some c =
    let read = rw c.in-Ok-Some.field-0-is at c.in-Ok-Some.ensures in
    an_order c.args.state c.args.line.now _ c.requires.0 _ refl c.if-state.false _ read.same refl refl _ _ c.with_order.ensures
