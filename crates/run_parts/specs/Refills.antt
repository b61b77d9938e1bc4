-- A run after a read, where one was due.
-- Assumes nothing.
use Rattle.std.specs.Prelude.{List, ◌≡◌, ℕ, Result, IfOk}
use Rattle.program.specs.declared.RunState.{RunState}
use Rattle.program.specs.Turns.{Refill}

-- A read, where one is due: what it brought, and the run that received it.
pub record Brought (s : RunState) (input : List ℕ) (r : RunState) (input' : List ℕ) : Type 0 where
  pub got : ℕ
  pub brought : List ℕ
  pub refill : Refill s input got brought r input'

-- The run after a read, unless the read failed.
abbrev pub AfterRefill : {E : Type 0} → RunState → List ℕ → Result RunState E → List ℕ → Type 0
AfterRefill s input r input' = IfOk r (λ after. Brought s input after input')
