-- "A record's time is the cycle of its command's last bit": a request's record has the time at which the request is performed. Its kind is a byte
-- and not 0, and its flags here are below hexadecimal 20, which document 02, F-5, adds.
-- Assumes nothing.
use mathlib.Core.Bool.{Bool, true, ◌&&◌}
use mathlib.Core.List.{List}
use mathlib.Core.Path.{◌≡◌, refl, subst}
use Prim.Native.Nat.{ℕ, ◌+◌, ◌<◌, ◌≤◌}
use native.Mathlib.Omega.{arith}
use borrow.Author.Tests.{ltb-true}
use Rattle.bits.proofs.Truth.{choice, cond_most}
use Rattle.recogniser.specs.declared.SlowRequest.{SlowRequest}
use Rattle.recogniser.specs.declared.SlowRequest.TheVariants.{LeaveRunMode, Command, Bad, Frame}
use Rattle.recogniser.specs.declared.Request.{Request}
use Rattle.recogniser.specs.declared.Request.TheVariants.{Nothing, Lv1, Fast, BadFast, Slow}
use Rattle.plans.specs.declared.Plan.{Plan}
use Rattle.registers.specs.declared.Model.{Model}
use Rattle.plans.specs.Plan.{exists_at}
use Rattle.triggers.specs.declared.Acted.{Acted}
use Rattle.records.specs.declared.Cycle.{Cycle}
use Rattle.records.specs.declared.Cycle.TheVariants.{Silent, Recorded}
use Rattle.records.specs.declared.Record.{Record}
use Rattle.records.specs.Records.{record_of, flag_acted, flag_flip, flag_sent}
use Rattle.triggers.specs.Triggers.{has_flip, sends_of}
use Rattle.controller.specs.Commands.{slow_of, act_of}
use Rattle.controller.specs.Requests.{slow_fits, request_fits}
use Rattle.controller.proofs.EffectCases.{command_cases}

pub record Stamp (time : ℕ) (r : Record) : Type 0 where
  pub at_time : r.time ≡ time
  pub some_kind : 0 < r.kind
  pub byte_kind : r.kind < 256
  pub low_flags : r.flags < 0x20

abbrev pub Stamped : ℕ → Cycle → Type 0
Stamped time Silent = Unit {0}
Stamped time (Recorded r) = Stamp time r

pub flags_low : (a b c : Bool) → flag_acted a + flag_flip b + flag_sent c ≤ 7
flags_low a b c =
    let p = cond_most a {x = 1} {y = 0} {n = 1} (omega arith) (omega arith) in
    let q = cond_most b {x = 2} {y = 0} {n = 2} (omega arith) (omega arith) in
    let r = cond_most c {x = 4} {y = 0} {n = 4} (omega arith) (omega arith) in
    omega arith

module _ (plan : Plan) (m : Model) (time : ℕ) (store : List ℕ) where
  stamp : {kind flags value : ℕ} → 0 < kind → kind < 256 → flags < 0x20 → Stamp time (record_of time kind flags value)
  stamp s k f = record { at_time = refl; some_kind = s; byte_kind = k; low_flags = f }

  slow_stamped : (s : SlowRequest) → slow_fits s ≡ true → Stamped time (slow_of plan m s time store).acted.cycle
  slow_stamped LeaveRunMode fits = tt
  slow_stamped (Command command address value) fits =
      let P : Acted → Type 0 = λ a. Stamped time a.cycle in
      command_cases (λ f. P f.acted) plan m command address value time store
      (λ _. choice P (exists_at plan address) (λ _. stamp (omega arith) (omega arith) (omega arith)) (λ _. stamp (omega arith) (omega arith) (omega arith)))
      (choice P (exists_at plan address) (λ _. stamp (omega arith) (omega arith) (omega arith)) (λ _. stamp (omega arith) (omega arith) (omega arith)))
      (stamp (omega arith) (omega arith) (omega arith))
      (stamp (omega arith) (omega arith) (omega arith))
      (λ _. stamp (omega arith) (omega arith) (omega arith))
      (λ _. stamp (omega arith) (omega arith) (omega arith))
      (stamp (omega arith) (omega arith) (omega arith))
  slow_stamped (Bad command) fits = stamp (omega arith) (omega arith) (omega arith)
  slow_stamped (Frame command unsteady) fits =
      let low = ltb-true command 16 fits in
      let u = cond_most unsteady {x = 16} {y = 0} {n = 16} (omega arith) (omega arith) in
      stamp (omega arith) (omega arith) (omega arith)

  pub stamped : (q : Request) → request_fits q ≡ true → Stamped time (act_of plan m q time store).acted.cycle
  unfolding act_of
  stamped Nothing fits = tt
  stamped (Lv1 position) fits =
      let f = flags_low m.running (has_flip position) (m.running && sends_of plan m) in
      stamp (omega arith) (omega arith) (omega arith)
  stamped (Fast body) fits =
      let low = ltb-true body 16 fits in
      let f = cond_most m.running {x = 1} {y = 0} {n = 1} (omega arith) (omega arith) in
      stamp (omega arith) (omega arith) (omega arith)
  stamped (BadFast body) fits = stamp (omega arith) (omega arith) (omega arith)
  stamped (Slow s) fits = slow_stamped s fits

  pub record_stamp : (q : Request) (r : Record) → request_fits q ≡ true → (act_of plan m q time store).acted.cycle ≡ Recorded r → Stamp time r
  record_stamp q r fits e = subst (Stamped time) e (stamped q fits)
