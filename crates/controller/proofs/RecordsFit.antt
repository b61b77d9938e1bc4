-- The record of a request whose fields are narrow has a value below 2^32. Of its time, kind and flags `RecordStamps` tells.
-- Assumes nothing.
use mathlib.Core.List.{List}
use Prim.Native.Nat.{ℕ, ◌+◌, ◌*◌, ◌^◌, ◌<◌, ◌≤◌}
use native.Mathlib.Omega.{arith}
use lib.Dec.{eqb}
use Rattle.bits.proofs.Truth.{choice}
use Rattle.recogniser.specs.declared.SlowRequest.{SlowRequest}
use Rattle.recogniser.specs.declared.SlowRequest.TheVariants.{LeaveRunMode, Command, Bad, Frame}
use Rattle.recogniser.specs.declared.Request.{Request}
use Rattle.recogniser.specs.declared.Request.TheVariants.{Nothing, Lv1, Fast, BadFast, Slow}
use Rattle.plans.specs.declared.Plan.{Plan}
use Rattle.registers.specs.declared.Warnings.{Warnings}
use Rattle.registers.specs.declared.Model.{Model}
use Rattle.plans.specs.Plan.{exists_at}
use Rattle.registers.specs.Registers.{cnt_of, warning_bits, read_of}
use Rattle.triggers.specs.declared.Acted.{Acted}
use Rattle.records.specs.declared.Cycle.{Cycle}
use Rattle.records.specs.declared.Cycle.TheVariants.{Silent, Recorded}
use Rattle.controller.specs.Commands.{frame_value_of, slow_of, act_of}
use Rattle.controller.specs.Widths.{ModelFits, SlowNarrow, Narrow, ValueFits}
use Rattle.controller.proofs.EffectCases.{command_cases}
use Rattle.controller.proofs.RecordStamps.{flags_low}

abbrev pub CycleFits : Cycle → Type 0
CycleFits Silent = Unit {0}
CycleFits (Recorded r) = ValueFits r.value

warnings_low : (w : Warnings) → warning_bits w ≤ 7
warnings_low w = flags_low w.wlv1 w.wfst w.wslw

module _ (plan : Plan) (m : Model) (fit : ModelFits m) (time : ℕ) (store : List ℕ) where
  read_low : (address : ℕ) → read_of plan m address < 2 ^ 16
  read_low address =
      let h = fit.each_register address in
      let w = warnings_low m.warnings in
      choice (λ v. v < 2 ^ 16) (eqb address plan.csr) (λ _. omega arith) (λ _. h)

  frame_low : (command : ℕ) → ValueFits (frame_value_of command (cnt_of plan m))
  frame_low command =
      let h = fit.each_register plan.cnt in
      choice ValueFits (eqb command 6) (λ _. omega arith) (λ _. omega arith)

  slow_fits : (s : SlowRequest) → SlowNarrow s → CycleFits (slow_of plan m s time store).acted.cycle
  slow_fits LeaveRunMode n = tt
  slow_fits (Command command address value) n =
      let P : Acted → Type 0 = λ a. CycleFits a.cycle in
      let r = read_low address in
      command_cases (λ f. P f.acted) plan m command address value time store
      (λ _. choice P (exists_at plan address) (λ _. omega arith) (λ _. omega arith))
      (choice P (exists_at plan address) (λ _. omega arith) (λ _. omega arith))
      (omega arith) (omega arith) (λ _. omega arith) (λ _. omega arith) (omega arith)
  slow_fits (Bad command) n = omega arith
  slow_fits (Frame command unsteady) n = frame_low command

  pub cycle_fits : (q : Request) → Narrow q → CycleFits (act_of plan m q time store).acted.cycle
  unfolding act_of
  cycle_fits Nothing n = tt
  cycle_fits (Lv1 position) n =
      choice (λ v. ValueFits (position * 65536 + v)) m.running (λ _. omega arith) (λ _. omega arith)
  cycle_fits (Fast body) n = omega arith
  cycle_fits (BadFast body) n = omega arith
  cycle_fits (Slow s) n = slow_fits s n
