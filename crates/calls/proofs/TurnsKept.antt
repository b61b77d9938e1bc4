-- What any bits keep: the clock goes on with each, and the plan, the widths, the count of registers and the lengths of store and tray stay.
-- Assumes nothing.
use mathlib.Core.List.{List, [], ◌∷◌}
use mathlib.Core.Path.{◌≡◌, refl, ◌∙◌}
use Prim.Native.Nat.{ℕ, zero, suc, ◌+◌, ◌/◌, ◌%◌, ◌^◌}
use native.Mathlib.Omega.{arith}
use lib.Dec.{eqb}
use lib.ListN.{length, length-set}
use Rattle.bits.proofs.Truth.{choice}
use Rattle.recogniser.specs.declared.SlowRequest.{SlowRequest}
use Rattle.recogniser.specs.declared.SlowRequest.TheVariants.{LeaveRunMode, Command, Bad, Frame}
use Rattle.recogniser.specs.declared.Request.{Request}
use Rattle.recogniser.specs.declared.Request.TheVariants.{Nothing, Lv1, Fast, BadFast, Slow}
use Rattle.recogniser.specs.declared.FrameBit.{FrameBit}
use Rattle.recogniser.specs.declared.FrameBit.TheVariants.{None, At}
use Rattle.frames.specs.Tray.{tray_of}
use Rattle.plans.specs.declared.Plan.{Plan}
use Rattle.registers.specs.declared.Model.{Model}
use Rattle.registers.specs.Registers.{feen_of}
use Rattle.fifos.specs.Fifos.{Fifos, push_if, write_of}
use Rattle.controller.specs.Commands.{Effect, slow_of, act_of}
use Rattle.controller.specs.Widths.{ModelFits}
use Rattle.controller.proofs.EffectCases.{act_keeps}
use Rattle.controller.proofs.EffectKeeps.{after, model_fits}
use Rattle.calls.specs.Run.{state_after}
use Rattle.calls.specs.Turn.{System, transition_of, turn_of}

tray_kept : (tray : List ℕ) (f : FrameBit) → length (tray_of tray f) ≡ length tray
unfolding tray_of
tray_kept tray None = refl
tray_kept tray (At place bit) = length-set tray (place / 8) _

registers_long : (plan : Plan) (m : Model) (q : Request) (time : ℕ) (store : List ℕ) → length m.registers ≡ 16
    → length (after plan m q time store).registers ≡ 16
registers_long plan m q time store f = act_keeps (λ r p c b. length r ≡ 16) plan m time store q (record {
  now = f;
  lv1 = f;
  fast = λ _. f;
  write = λ address _ _ _ _. length-set m.registers address _ ∙ f;
  push = λ _ _. f;
  pop = λ _. f;
  reset = λ _. refl;
  run = λ _ _. f;
})

-- The FIFOs' words are as many.
words_long : (k n feen word : ℕ) (f : Fifos) → length (write_of k n feen word f).store ≡ length f.store
unfolding write_of
words_long zero n feen word f = refl
words_long (suc k) n feen word f =
    words_long k (n + 1) feen word (push_if n feen word f)
    ∙ choice (λ (g : Fifos). length g.store ≡ length f.store) (eqb (feen / 2 ^ n % 2) 1) (λ _. length-set f.store _ _) (λ _. refl)

module _ (plan : Plan) (m : Model) (time : ℕ) (store : List ℕ) where
  abbrev Same : Effect → Type 0
  Same e = length e.store ≡ length store

  slow_store : (q : SlowRequest) → Same (slow_of plan m q time store)
  slow_store LeaveRunMode = refl
  slow_store (Command command address value) =
      choice Same (eqb command 0) (λ _. refl)
      (λ _. choice Same (eqb command 1) (λ _. refl)
      (λ _. choice Same (eqb command 2) (λ _. words_long 16 0 (feen_of plan m) (value % 2 ^ 27) (record { writes = m.pointers.writes; store = store }))
      (λ _. choice Same (eqb command 3) (λ _. refl)
      (λ _. choice Same (eqb command 8) (λ _. refl) (λ _. choice Same (eqb command 9) (λ _. refl) (λ _. refl))))))
  slow_store (Bad command) = refl
  slow_store (Frame command unsteady) = refl

  store_kept : (q : Request) → Same (act_of plan m q time store)
  unfolding act_of
  store_kept Nothing = refl
  store_kept (Lv1 position) = refl
  store_kept (Fast body) = refl
  store_kept (BadFast body) = refl
  store_kept (Slow q) = slow_store q

pub record Kept (s : System) (bits : List ℕ) : Type 0 where
  pub plan : (state_after turn_of s bits).machine.plan ≡ s.machine.plan
  pub next : (state_after turn_of s bits).machine.next ≡ s.machine.next + length bits
  pub store : length (state_after turn_of s bits).machine.store ≡ length s.machine.store
  pub tray : length (state_after turn_of s bits).machine.tray ≡ length s.machine.tray
  pub model : ModelFits s.machine.model → ModelFits (state_after turn_of s bits).machine.model
  pub registers : length s.machine.model.registers ≡ 16 → length (state_after turn_of s bits).machine.model.registers ≡ 16

pub kept : (bits : List ℕ) (s : System) → Kept s bits
unfolding turn_of
kept [] s = record { plan = refl; next = omega arith; store = refl; tray = refl; model = λ f. f; registers = λ f. f }
kept (bit ∷ bits) s =
    let m = s.machine in
    let t = (transition_of s bit).event in
    let k = kept bits (turn_of s bit).state in
    let on = k.next in
    record {
      plan = k.plan;
      next = omega arith;
      store = k.store ∙ store_kept m.plan m.model m.next m.store t.request;
      tray = k.tray ∙ tray_kept m.tray t.frame;
      model = λ f. k.model (model_fits m.plan m.model t.request m.next m.store f);
      registers = λ f. k.registers (registers_long m.plan m.model t.request m.next m.store f);
    }
