-- What the taking loop keeps.
-- Assumes nothing.
use Prim.Native.Nat.{◌+◌, ◌-◌}
use Rattle.bits.proofs.Places.{Stands}
use Rattle.calls.specs.Take.{call}
use Rattle.calls.proofs.LoopInvariant.{Invariant}
use Rattle.call_loop.proofs.run.Given as goal

-- What the call's own invariant says, and that the cursor stands at the next bit.
abbrev pub invariant-loop-taken : goal.invariant-loop-taken
invariant-loop-taken l =
    Invariant l.decoder (call l.input l.first l.count l.initial.store l.initial.tray l.initial.list l.free) l.store l.tray l.list l.recogniser l.done l.taken
    × Stands l.cursor (l.first + l.taken)

abbrev pub decreases-loop-taken : goal.decreases-loop-taken
decreases-loop-taken l = l.count - l.taken
