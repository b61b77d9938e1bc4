-- The refusal number of what is wrong with an order (document 02, F-2).
-- Assumes nothing.
use Rattle.std.specs.Prelude.{ℕ, Result, Ok, Err}
use Rattle.contexts.specs.declared.OrderFault.{OrderFault}
use Rattle.contexts.specs.declared.OrderFault.TheVariants.{WrongOrder, TooFewZeros}

-- "9 for an unknown command or a used field of the wrong size, 10 for too few zeros".
abbrev pub fault_number : OrderFault → ℕ
fault_number WrongOrder = 9
fault_number TooFewZeros = 10

-- 0 where nothing is wrong.
abbrev pub refusal_number : Result Unit OrderFault → ℕ
refusal_number (Ok _) = 0
refusal_number (Err fault) = fault_number fault
