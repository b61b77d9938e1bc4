-- What a request keeps of the store and the model, as "a sound state stays sound" cites it.
-- Assumes nothing.
use mathlib.Core.Bool.{Bool, true, false, ◌||◌}
use mathlib.Core.List.{List, [], ◌∷◌}
use mathlib.Core.Path.{◌≡◌, refl, ap}
use Prim.Native.Nat.{ℕ, zero, suc, ◌+◌, ◌^◌, ◌≤◌, ◌<◌}
use native.Mathlib.Nat.{le_refl}
use native.Mathlib.Omega.{arith}
use lib.Dec.{ltb, eqb}
use lib.ListN.{get_or, set, replicate}
use borrow.Author.Tests.{lt-ltb, eq-eqb}
use Rattle.bits.proofs.Truth.{both, choice, clash, or_left, or_right}
use Rattle.recogniser.specs.declared.Request.{Request}
use Rattle.recogniser.specs.declared.Request.TheVariants.{Slow}
use Rattle.recogniser.specs.declared.SlowRequest.TheVariants.{LeaveRunMode}
use Rattle.plans.specs.declared.Plan.{Plan}
use Rattle.registers.specs.declared.Pointers.{Pointers}
use Rattle.registers.specs.declared.Model.{Model}
use Rattle.plans.specs.Plan.{exists_at}
use Rattle.registers.specs.Registers.{cnt_of, written_of, zeros16}
use Rattle.registers.specs.Parts.{pointers, zero_pointers}
use Rattle.fifos.specs.Fifos.{moved_on, write_of}
use Rattle.registers.specs.Sound.{every_from, fits_at, pointers_fit, zero_at, missing_zero}
use Rattle.fifos.proofs.WriteLoop.{fifos}
use Rattle.controller.specs.Commands.{act_of}
use Rattle.controller.specs.Requests.{changes_registers, changes_running}
use Rattle.controller.specs.Widths.{WidthsFit, ModelFits}
use Rattle.controller.proofs.EffectCases.{write_keeps, act_keeps}

-- The model after a request.
abbrev pub after : Plan → Model → Request → ℕ → List ℕ → Model
after plan m e time store = (act_of plan m e time store).acted.model

-- A test that is weaker at each number still passes.
every_more : (n i : ℕ) (f g : ℕ → Bool) → ((k : ℕ) → f k ≡ true → g k ≡ true) → every_from n i f ≡ true → every_from n i g ≡ true
unfolding every_from
every_more zero i f g more h = h
every_more (suc n) i f g more h =
    let p = both (f i) (every_from n (i + 1) f) h in
    rw (more i p.0) (every_more n (i + 1) f g more p.1)

-- An element after a store: the stored one, or what was there.
set_case : (P : ℕ → Type 0) (l : List ℕ) (i k v : ℕ) → (k ≡ i → P v) → P (get_or l k 0) → P (get_or (set l i v) k 0)
set_case P [] i k v p q = q
set_case P (x ∷ xs) zero zero v p q = p refl
set_case P (x ∷ xs) zero (suc k) v p q = q
set_case P (x ∷ xs) (suc i) zero v p q = q
set_case P (x ∷ xs) (suc i) (suc k) v p q = set_case P xs i k v (λ e. p (ap suc e)) q

zeros_at : (n k : ℕ) → get_or {A = ℕ} (replicate n 0) k 0 ≡ 0
zeros_at zero k = refl
zeros_at (suc n) zero = refl
zeros_at (suc n) (suc k) = zeros_at n k

moved_fits : (l : List ℕ) (n : ℕ) → pointers_fit l ≡ true → pointers_fit (set l n (moved_on (get_or l n 0))) ≡ true
unfolding pointers_fit
moved_fits l n =
    every_more 16 0 (fits_at l) (fits_at (set l n (moved_on (get_or l n 0))))
    (λ k. set_case (λ x. ltb x 128 ≡ true) l n k (moved_on (get_or l n 0)) (λ _. lt-ltb (moved_on (get_or l n 0)) 128 (omega arith)))

-- A fact of the registers, as `act_keeps` takes it.
abbrev ZeroIn : Plan → List ℕ → Type 0
ZeroIn plan registers = every_from 16 0 (zero_at plan registers) ≡ true

written_zero : (plan : Plan) (l : List ℕ) (address value : ℕ) → exists_at plan address ≡ true → ZeroIn plan l → ZeroIn plan (set l address value)
written_zero plan l address value there =
    every_more 16 0 (zero_at plan l) (zero_at plan (set l address value))
    (λ k. set_case (λ x. (exists_at plan k || eqb x 0) ≡ true) l address k value (λ e. or_left (exists_at plan k) _ (rw e there)))

zeros_zero : (plan : Plan) → ZeroIn plan zeros16
unfolding every_from
zeros_zero plan =
    every_more 16 0 (λ _. true) (zero_at plan zeros16)
    (λ k _. or_right (exists_at plan k) _ (eq-eqb _ _ (zeros_at 16 k))) refl

-- A model whose arrays are all 0, as at the opening.
pub zeros_fit : pointers_fit zeros16 ≡ true
unfolding pointers_fit every_from
zeros_fit = refl

pub zeros_missing : (plan : Plan) (m : Model) → m.registers ≡ zeros16 → missing_zero plan m ≡ true
unfolding missing_zero
zeros_missing plan m e = rw e (zeros_zero plan)

-- What holds of the model before a request holds of it after.
module _ (plan : Plan) (m : Model) (q : Request) (time : ℕ) (store : List ℕ) where
  -- A fact of the pointers: it holds now and of zeros, and each word written or read keeps it.
  pointers_keep : (P : Pointers → Type 0) → P m.pointers → P zero_pointers
      → ((feen word : ℕ) → P (pointers (write_of 16 0 feen word (fifos m.pointers.writes store)).writes m.pointers.reads))
      → ((n : ℕ) → P (pointers m.pointers.writes (set m.pointers.reads n (moved_on (get_or m.pointers.reads n 0)))))
      → P (after plan m q time store).pointers
  pointers_keep P now none push pop = act_keeps (λ r p c b. P p) plan m time store q (record {
    now = now;
    lv1 = now;
    fast = λ body. choice P (eqb body 0b0010) (λ _. none) (λ _. now);
    write = λ _ _ _ _ _. now;
    push = push;
    pop = pop;
    reset = λ _. none;
    run = λ _ _. now;
  })

  pub writes_fit : pointers_fit m.pointers.writes ≡ true → pointers_fit (after plan m q time store).pointers.writes ≡ true
  writes_fit h =
      pointers_keep (λ p. pointers_fit p.writes ≡ true) h zeros_fit
      (λ feen word. write_keeps (λ f. pointers_fit f.writes ≡ true) (λ n word f. moved_fits f.writes n) 16 0 feen word _ h) (λ _. h)

  pub reads_fit : pointers_fit m.pointers.reads ≡ true → pointers_fit (after plan m q time store).pointers.reads ≡ true
  reads_fit h =
      pointers_keep (λ p. pointers_fit p.reads ≡ true) h zeros_fit (λ _ _. h) (λ n. moved_fits m.pointers.reads n h)

  -- A fact of the registers: it holds now, and after a write and a reset by a request that changes them.
  registers_keep : (P : List ℕ → Type 0) → P m.registers
      → ((address value : ℕ) → value < 2 ^ 16 → exists_at plan address ≡ true → changes_registers q ≡ true → P (written_of plan m address value))
      → (changes_registers q ≡ true → P zeros16) → P (after plan m q time store).registers
  registers_keep P now write reset = act_keeps (λ r p c b. P r) plan m time store q (record {
    now = now;
    lv1 = now;
    fast = λ _. now;
    write = write;
    push = λ _ _. now;
    pop = λ _. now;
    reset = reset;
    run = λ _ _. now;
  })

  pub missing_zero_lem : missing_zero plan m ≡ true → missing_zero plan (after plan m q time store) ≡ true
  unfolding missing_zero
  missing_zero_lem h =
      registers_keep (ZeroIn plan) h (λ address value _ there _. written_zero plan m.registers address _ there h) (λ _. zeros_zero plan)

  -- Registers and L1ID stay within their widths.
  pub model_fits : ModelFits m → ModelFits (after plan m q time store)
  model_fits f =
      act_keeps (λ r p c b. WidthsFit r c) plan m time store q (record {
        now = f;
        lv1 = record { l1id = omega arith; each_register = f.each_register };
        fast = λ body. record {
          l1id = choice (λ n. n < 2 ^ 8) (eqb body 0b0010) (λ _. omega arith) (λ _. f.l1id);
          each_register = f.each_register;
        };
        write = λ address value h _ _. record {
          l1id = f.l1id;
          each_register = λ n.
              set_case (λ x. x < 2 ^ 16) m.registers address n _
              (λ _. choice (λ x. x < 2 ^ 16) (eqb address plan.csr) (λ _. omega arith) (λ _. h)) (f.each_register n);
        };
        push = λ _ _. f;
        pop = λ _. f;
        reset = λ _. record { l1id = omega arith; each_register = λ n. rw (zeros_at 16 n) (omega arith) };
        run = λ _ _. f;
      })

  pub base_low : m.counters.base ≤ time → (after plan m q time store).counters.base ≤ time
  base_low h = act_keeps (λ r p c b. c.base ≤ time) plan m time store q (record {
    now = h;
    lv1 = h;
    fast = λ body. choice (λ n. n ≤ time) (eqb body 0b0001) (λ _. le_refl time) (λ _. h);
    write = λ _ _ _ _ _. h;
    push = λ _ _. h;
    pop = λ _. h;
    reset = λ _. le_refl time;
    run = λ _ _. h;
  })

  pub registers_kept : changes_registers q ≡ false → (after plan m q time store).registers ≡ m.registers
  registers_kept h = registers_keep (λ r. r ≡ m.registers) refl (λ _ _ _ _ t. clash t h) (λ t. clash t h)

  pub cnt_kept : changes_registers q ≡ false → cnt_of plan (after plan m q time store) ≡ cnt_of plan m
  cnt_kept h = ap (λ l. get_or l plan.cnt 0) (registers_kept h)

  -- RunMode: ended by LeaveRunMode, started by EnDataTake, else as it was.
  pub running_kept : changes_running q ≡ false → (after plan m q time store).running ≡ m.running
  running_kept h = act_keeps (λ r p c b. b ≡ m.running) plan m time store q (record {
    now = refl;
    lv1 = refl;
    fast = λ _. refl;
    write = λ _ _ _ _ _. refl;
    push = λ _ _. refl;
    pop = λ _. refl;
    reset = λ _. refl;
    run = λ _ t. clash t h;
  })

pub leave_stops : (plan : Plan) (m : Model) (time : ℕ) (store : List ℕ) → (after plan m (Slow LeaveRunMode) time store).running ≡ false
unfolding act_of
leave_stops plan m time store = refl
