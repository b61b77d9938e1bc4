-- A run over a stretch of cycles: where it lands, and what is left to run.
-- Assumes nothing.
use mathlib.Core.Path.{◌≡◌, ◌∙◌, ap}
use mathlib.Core.Bool.{cond}
use mathlib.Core.List.{List, [], ◌∷◌}
use Prim.Native.Nat.{ℕ, suc, ◌+◌, ◌-◌, ◌≤◌}
use native.Mathlib.Omega.{arith}
use borrow.Author.Tests.{le-ltb}
use lib.ListN.{drop}
use Rattle.recogniser.specs.declared.Request.TheVariants.{Nothing}
use Rattle.recogniser.specs.declared.Event.{Event}
use Rattle.recogniser.specs.declared.Recogniser.{Recogniser}
use Rattle.recogniser.specs.declared.Transition.{Transition}
use Rattle.recogniser.specs.Parts.{no_event, transition, move_to}
use Rattle.recogniser.specs.Step.{step_of}
use Rattle.stretches.specs.declared.Stretch.{Stretch}
use Rattle.stretches.specs.Stretch.{stretched, one_more}
use Rattle.stretches.proofs.SingleCycles.{Passes, ends, last, more}
use Rattle.frames.specs.Tray.{tray_of}
use Rattle.records.specs.declared.Cycle.TheVariants.{Silent}
use Rattle.controller.specs.Commands.{Effect, act_of}
use Rattle.calls.specs.declared.Ending.TheVariants.{Done, ListFull}
use Rattle.calls.specs.Run.{Turned, Run, ended, one_bit, after_cycle, run_of}
use Rattle.calls.specs.Turn.{Machine, System, cnt_at, effect_at, respond_by, respond_of, turn_by, turn_of}

-- The turn that a stretch makes: its last request acts in the cycle of its last bit.
abbrev pub landed_by : Machine → Transition → ℕ → Effect → Turned System
landed_by m t next e = turn_by t (respond_by m t.event next e)

abbrev pub landed : System → Stretch → Turned System
landed s w =
    let m = s.machine in
    landed_by m (transition w.next w.event) (m.next + w.taken) (effect_at m w.event.request (m.next + w.taken - 1))

-- So many bits ahead of a run.
abbrev pub bits_ahead : ℕ → Run System → Run System
bits_ahead n r = record { state = r.state; bits = n + r.bits; words = r.words; ending = r.ending }

abbrev pub rest : System → List ℕ → Stretch → ℕ → Run System
rest s bits w room = bits_ahead w.taken (after_cycle (run_of turn_of (drop w.taken bits)) (landed s w).state (landed s w).cycle room)

-- a machine at a later cycle, and the system after a cycle that asks for nothing
abbrev later : Machine → ℕ → Machine
later m next = record { plan = m.plan; next = next; model = m.model; earlier = m.earlier; store = m.store; tray = m.tray }

abbrev passed : System → Recogniser → System
passed s r =
    let m = s.machine in
    record { recogniser = r; machine = later m (m.next + 1) }

silent_turn : (s : System) (t : Transition) → t.event ≡ no_event
    → turn_by t (respond_of s.machine t.event) ≡ record { state = passed s t.next; cycle = Silent }
unfolding act_of tray_of
silent_turn s t e = ap (λ (x : Event). turn_by (transition t.next x) (respond_of s.machine x)) e

same_landing : (s : System) (w : Stretch) (r : Recogniser) → landed (passed s r) w ≡ landed s (one_more w)
same_landing s w r =
    let a : s.machine.next + 1 + w.taken ≡ s.machine.next + suc w.taken = omega arith in
    rw a

-- one bit ahead is a bit ahead, and one more than n is n and one more
one_ahead : (n : ℕ) (r : Run System) → one_bit (bits_ahead n r) ≡ bits_ahead (suc n) r
one_ahead n r =
    let e : suc (n + r.bits) ≡ suc n + r.bits = omega arith in
    ap (λ b. record { state = r.state; bits = b; words = r.words; ending = r.ending }) e

none_ahead : (r : Run System) → r ≡ bits_ahead 0 r
none_ahead r =
    let e : r.bits ≡ 0 + r.bits = omega arith in
    ap (λ b. record { state = r.state; bits = b; words = r.words; ending = r.ending }) e

-- a turn by another CNT that is the same
turn_by_cnt : (s : System) (bit cnt : ℕ) → cnt_at s.machine ≡ cnt
    → turn_of s bit ≡ turn_by (step_of s.recogniser bit cnt) (respond_of s.machine (step_of s.recogniser bit cnt).event)
unfolding turn_of
turn_by_cnt s bit cnt e = ap (λ c. let t : Transition = step_of s.recogniser bit c in turn_by t (respond_of s.machine t.event)) e

-- one cycle is a stretch of one
turn_lands : (s : System) (bit cnt : ℕ) → cnt_at s.machine ≡ cnt → turn_of s bit ≡ landed s (stretched 1 (step_of s.recogniser bit cnt))
turn_lands s bit cnt e =
    let m : Machine = s.machine in
    let t : Transition = step_of s.recogniser bit cnt in
    let n : m.next ≡ m.next + 1 - 1 = omega arith in
    turn_by_cnt s bit cnt e ∙ ap (λ k. landed_by m t (m.next + 1) (effect_at m t.event.request k)) n

module _ (cnt room : ℕ) (enough : 2 ≤ room) where
  -- where two words are free, the next bit is taken
  first_bit : (s : System) (bit : ℕ) (bits : List ℕ)
      → run_of turn_of (bit ∷ bits) s room ≡ one_bit (after_cycle (run_of turn_of bits) (turn_of s bit).state (turn_of s bit).cycle room)
  first_bit s bit bits =
      ap (λ b. cond b (ended s ListFull) (one_bit (after_cycle (run_of turn_of bits) (turn_of s bit).state (turn_of s bit).cycle room))) (le-ltb room 2 enough)

  -- what is left after a turn
  left_by : List ℕ → Turned System → Run System
  left_by bits t = after_cycle (run_of turn_of bits) t.state t.cycle room

  one_cycle : (s : System) (bit : ℕ) (bits : List ℕ) → cnt_at s.machine ≡ cnt
      → run_of turn_of (bit ∷ bits) s room ≡ rest s (bit ∷ bits) (stretched 1 (step_of s.recogniser bit cnt)) room
  unfolding left_by
  one_cycle s bit bits e =
      let t : Turned System = landed s (stretched 1 (step_of s.recogniser bit cnt)) in
      first_bit s bit bits
      ∙ ap (λ t. one_bit (left_by bits t)) (turn_lands s bit cnt e)
      ∙ ap one_bit (none_ahead (left_by bits t)) ∙ one_ahead 0 (left_by bits t)

  at_end : (s : System) → run_of turn_of [] s room ≡ rest s [] (stretched 0 (move_to s.recogniser Nothing)) room
  unfolding act_of tray_of
  at_end s =
      let m = s.machine in
      let n : m.next ≡ m.next + 0 = omega arith in
      ap (λ n. ended (record { recogniser = s.recogniser; machine = later m n }) Done) n

  one_silent : (s : System) (bit : ℕ) (bits : List ℕ) (w : Stretch) → cnt_at s.machine ≡ cnt
      → (step_of s.recogniser bit cnt).event ≡ no_event
      → run_of turn_of bits (passed s (step_of s.recogniser bit cnt).next) room ≡ rest (passed s (step_of s.recogniser bit cnt).next) bits w room
      → run_of turn_of (bit ∷ bits) s room ≡ rest s (bit ∷ bits) (one_more w) room
  unfolding left_by
  one_silent s bit bits w e none ih =
      let t : Transition = step_of s.recogniser bit cnt in
      let to : turn_of s bit ≡ record { state = passed s t.next; cycle = Silent } = turn_by_cnt s bit cnt e ∙ silent_turn s t none in
      first_bit s bit bits
      ∙ ap (λ t. one_bit (left_by bits t)) to
      ∙ ap one_bit ih
      ∙ one_ahead w.taken (left_by (drop w.taken bits) (landed (passed s t.next) w))
      ∙ ap (λ t. bits_ahead (suc w.taken) (left_by (drop w.taken bits) t)) (same_landing s w t.next)

  pub run_stretch : {r : Recogniser} {bits : List ℕ} {w : Stretch} → Passes cnt r bits w → (s : System) → s.recogniser ≡ r
      → cnt_at s.machine ≡ cnt → run_of turn_of bits s room ≡ rest s bits w room
  run_stretch (ends r) s h e = at_end s ∙ ap (λ (q : Recogniser). rest s [] (stretched 0 (move_to q Nothing)) room) h
  run_stretch (last r bit bits) s h e = one_cycle s bit bits e ∙ ap (λ (q : Recogniser). rest s (bit ∷ bits) (stretched 1 (step_of q bit cnt)) room) h
  run_stretch (more r bit bits w none p) s h e =
      one_silent s bit bits w e (ap (λ (q : Recogniser). (step_of q bit cnt).event) h ∙ none)
      (run_stretch p (passed s (step_of s.recogniser bit cnt).next) (ap (λ (q : Recogniser). (step_of q bit cnt).next) h) e)
