-- Orders of which none is refused, for some plan, from some order on.
-- Assumes nothing.
use Rattle.std.specs.Prelude.{◌≡◌, List, ℕ, ◌^◌, ◌<◌}
use Rattle.plans.specs.declared.Plan.{Plan}
use Rattle.orders.specs.declared.Context.{Context}
use Rattle.orders.specs.Fields.{Ordered}
use Rattle.orders.specs.Composing.{refusal_from}

pub record AllFit (xs : List Ordered) : Type 0 where
  pub plan : Plan
  pub context : Context
  pub number : ℕ
  pub narrow : context.cnt < 2 ^ 16
  pub none : (refusal_from plan context number xs).number ≡ 0
