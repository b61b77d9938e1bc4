-- `blocks::step` meets its contract: with no bits left the block is scanned, else a taking call is made.
-- Assumes nothing.
use Rattle.std.proofs.Common.{arith}
use lib.ListN.{length}
use Rattle.program.proofs.Steps.{step_ready, more_input}
use Rattle.blocks.proofs.step.Goals as goal

pub returns-then-from-eq0-clause-after_steps : goal.returns-then-from-eq0-clause-after_steps
returns-then-from-eq0-clause-after_steps c =
    (c.scan_line.ensures c.args.frames c.args.store.now c.args.tray.now (step_ready (length c.args.input.now) _ c.requires.0 c.requires.1) c.if-from-eq0.true
    (more_input _ _ c.args.from c.requires.1 c.if-from-eq0.true)).0

pub returns-then-from-eq0-clause-result_bound : goal.returns-then-from-eq0-clause-result_bound
returns-then-from-eq0-clause-result_bound c =
    (c.scan_line.ensures c.args.frames c.args.store.now c.args.tray.now (step_ready (length c.args.input.now) _ c.requires.0 c.requires.1) c.if-from-eq0.true
    (more_input _ _ c.args.from c.requires.1 c.if-from-eq0.true)).1

pub take_bits-requires : goal.take_bits-requires
take_bits-requires c = (step_ready (length c.args.input.now) _ c.requires.0 c.requires.1, omega (arith, c.if-from-eq0.false))
