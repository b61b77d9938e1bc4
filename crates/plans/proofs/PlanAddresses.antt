-- An address that a plan has is below 16.
-- Assumes nothing.
use mathlib.Core.Bool.{true}
use mathlib.Core.Path.{◌≡◌}
use Prim.Native.Nat.{ℕ, ◌<◌}
use borrow.Author.Tests.{ltb-true}
use Rattle.bits.proofs.Truth.{both}
use Rattle.plans.specs.declared.Plan.{Plan}
use Rattle.plans.specs.Plan.{exists_at}

pub exists_low : (plan : Plan) (address : ℕ) → exists_at plan address ≡ true → address < 16
exists_low plan address e = ltb-true _ _ (both _ _ e).0
