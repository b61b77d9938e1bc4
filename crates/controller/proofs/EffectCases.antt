-- How a fact of every effect is shown: command by command, and for the model's arrays and base by what each request does to them.
-- Assumes nothing.
use mathlib.Core.Bool.{Bool, true, false}
use mathlib.Core.List.{List}
use mathlib.Core.Path.{◌≡◌, refl}
use Prim.Native.Nat.{ℕ, zero, suc, ◌+◌, ◌/◌, ◌%◌, ◌^◌, ◌<◌}
use native.Mathlib.Omega.{arith}
use lib.Dec.{eqb}
use lib.ListN.{get_or, set}
use Rattle.bits.proofs.Truth.{choice, or_left, or_right}
use Rattle.recogniser.specs.declared.SlowRequest.{SlowRequest}
use Rattle.recogniser.specs.declared.SlowRequest.TheVariants.{LeaveRunMode, Command, Bad, Frame}
use Rattle.recogniser.specs.declared.Request.{Request}
use Rattle.recogniser.specs.declared.Request.TheVariants.{Nothing, Lv1, Fast, BadFast, Slow}
use Rattle.plans.specs.declared.Plan.{Plan}
use Rattle.registers.specs.declared.Counters.{Counters}
use Rattle.registers.specs.declared.Pointers.{Pointers}
use Rattle.registers.specs.declared.Model.{Model}
use Rattle.plans.specs.Plan.{exists_at}
use Rattle.registers.specs.Registers.{feen_of, written_of, zeros16}
use Rattle.registers.specs.Parts.{counters, pointers, zero_pointers}
use Rattle.fifos.specs.Fifos.{Fifos, moved_on, push_of, write_of}
use Rattle.fifos.proofs.WriteLoop.{fifos}
use Rattle.triggers.specs.declared.Acted.{Acted}
use Rattle.triggers.specs.Triggers.{lv1_counted, fast_counted, fast_pointers}
use Rattle.controller.specs.Commands.{Effect, effect, write_register_of, read_register_of, write_fifo_of, read_fifo_of}
use Rattle.controller.specs.Commands.{enable_of, reset_of, reset_front_ends_of, command_of, slow_of, act_of}
use Rattle.controller.specs.Requests.{changes_registers, changes_running}

-- What each word written keeps, a WrFifo keeps.
pub write_keeps : (P : Fifos → Type 0) → ((n word : ℕ) (f : Fifos) → P f → P (push_of n word f))
    → (k n feen word : ℕ) (f : Fifos) → P f → P (write_of k n feen word f)
unfolding write_of
write_keeps P push zero n feen word f p = p
write_keeps P push (suc k) n feen word f p =
    write_keeps P push k (n + 1) feen word _ (choice P (eqb (feen / 2 ^ n % 2) 1) (λ _. push n word f p) (λ _. p))

module _ (P : Effect → Type 0) (plan : Plan) (m : Model) (command address value time : ℕ) (store : List ℕ) where
  pub command_cases : (eqb command 0 ≡ true → P (effect (write_register_of plan m address value time) store))
      → P (effect (read_register_of plan m address time) store)
      → P (write_fifo_of plan m value time store)
      → P (effect (read_fifo_of m address time store) store)
      → (eqb command 8 ≡ true → P (effect (enable_of m time) store))
      → (eqb command 9 ≡ true → P (effect (reset_of m time) store))
      → P (effect (reset_front_ends_of m value time) store)
      → P (command_of plan m command address value time store)
  command_cases p0 p1 p2 p3 p8 p9 p10 =
      choice P (eqb command 0) p0
      (λ _. choice P (eqb command 1) (λ _. p1)
      (λ _. choice P (eqb command 2) (λ _. p2)
      (λ _. choice P (eqb command 3) (λ _. p3)
      (λ _. choice P (eqb command 8) p8
      (λ _. choice P (eqb command 9) p9 (λ _. p10))))))

-- A fact of the registers, the pointers, the counters and RunMode, as each command leaves them.
module _ (P : List ℕ → Pointers → Counters → Bool → Type 0) where
  abbrev pub Holds : Model → Type 0
  Holds m = P m.registers m.pointers m.counters m.running

  -- What must be shown of a fact: that it holds now, and after each command that changes what it is about.
  pub record KeptByEach (plan : Plan) (m : Model) (q : Request) (time : ℕ) (store : List ℕ) : Type 0 where
    pub now : Holds m
    pub lv1 : P m.registers m.pointers (lv1_counted m.counters) m.running
    pub fast : (body : ℕ) → P m.registers (fast_pointers body m.pointers) (fast_counted body time m.counters) m.running
    pub write : (address value : ℕ) → value < 2 ^ 16 → exists_at plan address ≡ true → changes_registers q ≡ true
        → P (written_of plan m address value) m.pointers m.counters m.running
    pub push : (feen word : ℕ)
        → P m.registers (pointers (write_of 16 0 feen word (fifos m.pointers.writes store)).writes m.pointers.reads) m.counters m.running
    pub pop : (n : ℕ)
        → P m.registers (pointers m.pointers.writes (set m.pointers.reads n (moved_on (get_or m.pointers.reads n 0)))) m.counters m.running
    pub reset : changes_registers q ≡ true → P zeros16 zero_pointers (counters 0 time) m.running
    pub run : (b : Bool) → changes_running q ≡ true → P m.registers m.pointers m.counters b

  module _ (plan : Plan) (m : Model) (time : ℕ) (store : List ℕ) where
    slow_keeps : (s : SlowRequest) → KeptByEach plan m (Slow s) time store → Holds (slow_of plan m s time store).acted.model
    slow_keeps LeaveRunMode k = k.run false refl
    slow_keeps (Command command address value) k =
        let R : Acted → Type 0 = λ a. Holds a.model in
        command_cases (λ f. R f.acted) plan m command address value time store
        (λ e. choice R (exists_at plan address)
        (λ there. k.write address (value % 2 ^ 16) (omega arith) there (or_left (eqb command 0) (eqb command 9) e)) (λ _. k.now))
        (choice R (exists_at plan address) (λ _. k.now) (λ _. k.now))
        (k.push (feen_of plan m) (value % 2 ^ 27))
        (k.pop (address % 16))
        (k.run true)
        (λ e. k.reset (or_right (eqb command 0) (eqb command 9) e))
        k.now
    slow_keeps (Bad command) k = k.now
    slow_keeps (Frame command unsteady) k = k.now

    pub act_keeps : (q : Request) → KeptByEach plan m q time store → Holds (act_of plan m q time store).acted.model
    unfolding act_of
    act_keeps Nothing k = k.now
    act_keeps (Lv1 position) k =
        choice (λ c. P m.registers m.pointers c m.running) m.running (λ _. k.lv1) (λ _. k.now)
    act_keeps (Fast body) k = choice Holds m.running (λ _. k.fast body) (λ _. k.now)
    act_keeps (BadFast body) k = k.now
    act_keeps (Slow s) k = slow_keeps s k
