-- `put_orders` writes one order after another.
-- Assumes nothing.
use mathlib.Core.Path.{◌≡◌}
use Rattle.std.specs.Slice.Iter.{chunks_size, chunks_rest}
use Rattle.compose_calls.proofs.PutLoop.{Putting}
use Rattle.compose_calls.proofs.put_orders.Given as goal

abbrev pub invariant-loop-order_words : goal.invariant-loop-order_words
invariant-loop-order_words l =
    (chunks_size l.order_words-iterator ≡ 6)
    × Putting l.words l.frames l.initial.writer l.initial.out l.writer l.out (chunks_rest l.order_words-iterator)
