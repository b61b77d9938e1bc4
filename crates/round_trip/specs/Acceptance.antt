-- Composed streams of trigger and fast commands, and the check of document 02, F-8.
-- Assumes nothing.
use Rattle.std.specs.Prelude.{List, [], ◌∷◌, ◌≡◌, ◌<◌}
use Rattle.records.specs.Records.{kind_slow}
use Rattle.plans.specs.declared.Plan.{Plan}
use Rattle.patterns.specs.Verdict.{Accepted}
use Rattle.patterns.specs.Verdicts.{verdict_of}
use Rattle.orders.specs.Fields.{Ordered}
use Rattle.orders.specs.Streams.{stream_of}
use Rattle.round_trip.specs.ReadBack.{Fit}

-- No order is of a Slow.
abbrev pub OnlyTriggersAndFasts : List Ordered → Type 0
OnlyTriggersAndFasts [] = Unit {0}
OnlyTriggersAndFasts (x ∷ xs) = (x.order.kind < kind_slow 0) × OnlyTriggersAndFasts xs

-- What the composer writes of them, the check accepts.
abbrev pub ComposedAccepted : Type 0
ComposedAccepted = (plan : Plan) (xs : List Ordered) → Fit plan xs → OnlyTriggersAndFasts xs → verdict_of (stream_of xs) ≡ Accepted
