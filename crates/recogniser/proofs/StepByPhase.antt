-- A step is the step of the phase that the recogniser stands in, as callers cite it.
-- Assumes nothing.
use mathlib.Core.Path.{◌≡◌, ap}
use Prim.Native.Nat.{ℕ}
use Rattle.recogniser.specs.declared.Phase.{Phase}
use Rattle.recogniser.specs.declared.Recogniser.{Recogniser}
use Rattle.recogniser.specs.Step.{step_by, step_of}

pub step_at : (r : Recogniser) (bit cnt : ℕ) {p : Phase} → r.phase ≡ p → step_of r bit cnt ≡ step_by p r bit cnt
unfolding step_of
step_at r bit cnt e = ap (λ (q : Phase). step_by q r bit cnt) e
