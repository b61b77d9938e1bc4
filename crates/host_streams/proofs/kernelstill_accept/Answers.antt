-- `kernelstill_accept` answers the fault's number and place in one word.
-- Assumes nothing.
use mathlib.Core.Path.{◌∙◌, ap}
use Prim.Native.Nat.{◌+◌, ◌*◌, ◌≤◌}
use native.Mathlib.Omega.{arith}
use Rattle.limits.specs.Limits.{input_limit}
use Rattle.patterns.specs.Verdicts.{verdict_place}
use Rattle.patterns.proofs.WithinRange.{accept_near}
use Rattle.host_streams.specs.Accept.{accept_word}
use Rattle.host_streams.proofs.kernelstill_accept.Goals as goal
use Rattle.host_streams.proofs.kernelstill_accept.Goals.{After-place}

low : (c : After-place) → c.place.result ≤ 8 * input_limit
low c = rw (c.place.ensures, ap verdict_place c.in-Err.ensures) (accept_near _ _ _)

pub overflow_mul-result : goal.overflow_mul-result
overflow_mul-result c = let near = low (goal.at.overflow_mul-result c).After-place in omega arith

pub overflow_add-result : goal.overflow_add-result
overflow_add-result c = let near = low (goal.at.overflow_add-result c).After-place in omega arith

pub returns-in-Ok : goal.returns-in-Ok
returns-in-Ok c = ap accept_word c.in-Ok.ensures

pub returns-in-Err : goal.returns-in-Err
returns-in-Err c = (λ i. c.place.ensures i * 256 + c.number.ensures i) ∙ ap accept_word c.in-Err.ensures
