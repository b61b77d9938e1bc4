-- `after`: the kind, and CNT as a fit order leaves it.
-- Assumes nothing.
use native.Mathlib.Omega.{arith}
use Rattle.orders.proofs.FitOrders.{fitting, kind_low, register_low}
use Rattle.contexts.proofs.after.Goals as goal

pub overflow_cast-cnt : goal.overflow_cast-cnt
overflow_cast-cnt c = omega (arith, register_low (fitting _ _ _ c.requires) c.in-32.is)

pub overflow_cast-result : goal.overflow_cast-result
overflow_cast-result c = omega (arith, kind_low (fitting _ _ _ c.requires))
