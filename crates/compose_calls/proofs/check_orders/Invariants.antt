-- `check_orders` goes through all orders: the first that is refused, or the count of their bits.
-- Assumes nothing.
use mathlib.Core.Path.{◌≡◌}
use Rattle.std.specs.Slice.Iter.{chunks_size, chunks_rest}
use Rattle.compose_calls.proofs.CheckLoop.{Checking}
use Rattle.compose_calls.proofs.check_orders.Given as goal

abbrev pub invariant-loop-number : goal.invariant-loop-number
invariant-loop-number l =
    (chunks_size l.number-iterator.iter ≡ 6)
    × Checking l.plan l.words l.frames l.context l.bits l.number-iterator.count (chunks_rest l.number-iterator.iter)
