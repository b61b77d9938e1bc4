-- What a composing call answers, as the definition says it.
-- Assumes nothing.
use Rattle.std.specs.Prelude.{ℕ, Result, Ok, Err}
use Rattle.contexts.specs.Faults.{fault_number}
use Rattle.orders.specs.Composed.{Composed}
use Rattle.orders.specs.Composing.{composed}
use Rattle.compose_calls.specs.declared.ComposeError.{ComposeError}
use Rattle.compose_calls.specs.declared.ComposeError.TheVariants.{WrongPlan, WrongOrder, StreamTooLong}

abbrev pub refused : ComposeError → Composed
refused WrongPlan = composed 1 0 0
refused (WrongOrder fault order) = composed (fault_number fault) order 0
refused StreamTooLong = composed 11 0 0

abbrev pub answered : Result ℕ ComposeError → Composed
answered (Ok bits) = composed 0 0 bits
answered (Err error) = refused error
