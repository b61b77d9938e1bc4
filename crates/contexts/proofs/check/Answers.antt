-- `check`: the command of a fit order has a byte's kind.
-- Assumes nothing.
use mathlib.Core.Path.{◌∙◌, sym}
use native.Mathlib.Omega.{arith}
use Rattle.orders.proofs.FitOrders.{fitting, kind_low}
use Rattle.contexts.proofs.check.Goals as goal

pub overflow_cast-order : goal.overflow_cast-order
overflow_cast-order c = omega (arith, kind_low (fitting _ _ _ (sym c.fits.ensures ∙ c.if-not-fits.false)))
