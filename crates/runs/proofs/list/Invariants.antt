use Rattle.runs.proofs.UnderWay.{UnderWay}
use Rattle.runs.proofs.list.Given as goal

abbrev pub invariant-loop : goal.invariant-loop
invariant-loop l = UnderWay l.prints.frames l.initial.store l.initial.tray l.state l.store l.tray l.input l.output
