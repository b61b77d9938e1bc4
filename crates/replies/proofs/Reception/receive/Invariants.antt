-- `Reception::receive` goes through a range bit by bit, up to its end or to a whole reply.
-- Assumes nothing.
use Rattle.replies.specs.Reception.{received}
use Rattle.replies.proofs.ReceiveLoop.{Invariant}
use Rattle.replies.proofs.Reception.receive.Given as goal

abbrev pub invariant-loop : goal.invariant-loop
invariant-loop l =
    Invariant l.input l.first l.count (received l.initial.state l.initial.buffer) l.at l.counter (received l.state l.buffer)
