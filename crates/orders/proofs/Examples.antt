-- The table of orders, computed.
-- Assumes nothing.
use mathlib.Core.Path.{refl}
use Rattle.plans.specs.Plan.{plan_fits}
use Rattle.orders.specs.Fields.{order_fits, order_in, orders_from}
use Rattle.orders.specs.Streams.{command_bits, stream_of}
use Rattle.orders.specs.Composing.{refusal_from, compose_of}
use Rattle.orders.specs.ComposeTable.{ComposeExamples}

pub compose_examples : ComposeExamples
unfolding plan_fits order_fits order_in orders_from command_bits stream_of refusal_from compose_of
compose_examples = record { numbers = refl; orders = refl; counts = refl; outputs = refl }
