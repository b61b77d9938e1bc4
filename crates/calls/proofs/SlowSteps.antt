-- A step against Slow commands: it leaves the recogniser idle, begins a Slow, or goes on with a request that leaves RunMode and registers alone.
-- Assumes nothing.
use mathlib.Core.Bool.{false}
use mathlib.Core.Path.{◌≡◌, refl}
use Prim.Native.Nat.{ℕ}
use lib.Dec.{T, ltb, eqb}
use Rattle.bits.specs.Bits.{shifted}
use Rattle.bits.proofs.Truth.{cond_case}
use Rattle.recogniser.specs.declared.Phase.{Phase}
use Rattle.recogniser.specs.declared.Phase.TheVariants.{Hunt, Body, Field3, Field4, Field5}
use Rattle.windows.specs.declared.Meaning.{Meaning}
use Rattle.windows.specs.declared.Meaning.TheVariants.{Quiet, Trigger, Header}
use Rattle.recogniser.specs.declared.FrameBit.{FrameBit}
use Rattle.recogniser.specs.declared.Request.{Request}
use Rattle.recogniser.specs.declared.Request.TheVariants.{Nothing, Slow}
use Rattle.recogniser.specs.declared.SlowRequest.TheVariants.{LeaveRunMode}
use Rattle.recogniser.specs.declared.Recogniser.{Recogniser}
use Rattle.recogniser.specs.declared.Transition.{Transition}
use Rattle.recogniser.specs.Parts.{idle, transition}
use Rattle.windows.specs.Windows.{is_fast, meaning_of}
use Rattle.recogniser.specs.Hunting.{hunt_by}
use Rattle.slow_fields.specs.Slow.{is_frame, length_of}
use Rattle.recogniser.specs.Fields.{ends_of}
use Rattle.recogniser.specs.Step.{step_by, step_of}
use Rattle.controller.specs.Requests.{changes_registers, changes_running}
use Rattle.decoder.specs.Sound.{inside_slow}

-- A request that leaves registers and RunMode alone.
pub record Keeps (e : Request) : Type 0 where
  pub registers : changes_registers e ≡ false
  pub running : changes_running e ≡ false

-- What a step may do, by the recogniser before it.
pub data Steps (r : Recogniser) : Transition → Type 0 where
  over : {f : FrameBit} {e : Request} → Steps r (transition idle (record { frame = f; request = e }))
  begins : {next : Recogniser} {f : FrameBit} → Steps r (transition next (record { frame = f; request = Slow LeaveRunMode }))
  goes_on : {next : Recogniser} {f : FrameBit} {e : Request} → Keeps e → (T (inside_slow next.phase) → T (inside_slow r.phase))
      → Steps r (transition next (record { frame = f; request = e }))

nothing_keeps : Keeps Nothing
nothing_keeps = record { registers = refl; running = refl }

hunt_steps : (r : Recogniser) (w : ℕ) (m : Meaning) → Steps r (hunt_by w m)
hunt_steps r w Quiet = goes_on nothing_keeps (λ t. absurd t)
hunt_steps r w (Trigger position) = over
hunt_steps r w Header = goes_on nothing_keeps (λ t. absurd t)

module _ (r : Recogniser) (bit cnt : ℕ) where
  phase_steps : (p : Phase) → (T (inside_slow p) → T (inside_slow r.phase)) → Steps r (step_by p r bit cnt)
  phase_steps Hunt inside = hunt_steps r (shifted 5 r.shift bit) (meaning_of (shifted 5 r.shift bit))
  phase_steps Body inside =
      let body = shifted 4 r.shift bit in
      cond_case (Steps r) (ltb r.count 3) (λ _. goes_on nothing_keeps (λ t. t))
      (λ _. cond_case (Steps r) (is_fast body) (λ _. over)
      (λ _. cond_case (Steps r) (eqb body 0b1011) (λ _. begins) (λ _. over)))
  phase_steps Field3 inside =
      cond_case (Steps r) (ltb r.count 3) (λ _. goes_on nothing_keeps (λ t. t))
      (λ _. goes_on nothing_keeps inside)
  phase_steps Field4 inside =
      cond_case (Steps r) (ltb r.count 3) (λ _. goes_on nothing_keeps (λ t. t))
      (λ _. cond_case (Steps r) (ltb 0 (length_of r.command cnt)) (λ _. goes_on nothing_keeps inside)
      (λ _. cond_case (Steps r) (is_frame r.command) (λ _. over) (λ _. over)))
  phase_steps Field5 inside =
      cond_case (Steps r) (is_frame r.command)
      (λ _. cond_case (Steps r) (ends_of r cnt) (λ _. over) (λ _. goes_on nothing_keeps (λ t. t)))
      (λ _. cond_case (Steps r) (ends_of r cnt) (λ _. over) (λ _. goes_on nothing_keeps (λ t. t)))

  pub slow_steps : Steps r (step_of r bit cnt)
  unfolding step_of
  slow_steps = phase_steps r.phase (λ t. t)
