-- `Composition::is_over` meets its contract: a refusal has a number.
-- Assumes nothing.
use mathlib.Core.Path.{◌∙◌}
use Rattle.order_refusals.proofs.Refusals.{is_refused}
use Rattle.compositions.proofs.Composition.is_over.Goals as goal

pub returns : goal.returns
returns c = c.is_some.ensures ∙ is_refused c.args.self.refusal
