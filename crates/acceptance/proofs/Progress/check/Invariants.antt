-- `Progress::check` goes through a range bit by bit, up to its end or to a pattern at fault.
-- Assumes nothing.
use Rattle.acceptance.proofs.CheckLoop.{Invariant}
use Rattle.acceptance.proofs.Progress.check.Given as goal

abbrev pub invariant-loop : goal.invariant-loop
invariant-loop l = Invariant l.input l.first l.count l.initial.progress l.at l.counter l.progress
