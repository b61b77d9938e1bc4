-- Bits that lead from one state to another and write nothing, and bits whose last asks for something; zeros.
-- Assumes nothing.
use mathlib.Core.List.{List, [], ◌∷◌, ◌++◌, append-nil}
use mathlib.Core.Path.{◌≡◌, ◌∙◌, refl, ap}
use Prim.Native.Nat.{ℕ, zero, suc, ◌+◌}
use native.Mathlib.Omega.{arith}
use Rattle.recogniser.specs.declared.Request.{Request}
use Rattle.recogniser.specs.declared.Request.TheVariants.{Nothing}
use Rattle.recogniser.specs.declared.Recogniser.{Recogniser}
use Rattle.recogniser.specs.declared.Transition.{Transition}
use Rattle.recogniser.specs.Parts.{idle, requesting, move_to}
use Rattle.recogniser.specs.Step.{step_of}
use Rattle.frames.specs.Tray.{tray_of}
use Rattle.records.specs.Records.{words_of}
use Rattle.registers.specs.declared.Model.{Model}
use Rattle.controller.specs.Commands.{act_of}
use Rattle.calls.specs.Run.{Turned, state_after, words_after}
use Rattle.calls.specs.Turn.{System, Machine, respond_of, turn_by, transition_of, turn_of}
use Rattle.calls.proofs.RunFaithful.{state_append, words_append}
use Rattle.calls.proofs.FrameTurns.{system}
use Rattle.orders.specs.Streams.{zeros}

-- A machine at a cycle, with a model; and so many cycles on.
abbrev pub at_cycle : ℕ → Model → Machine → Machine
at_cycle n model m = record { plan = m.plan; next = n; model = model; earlier = m.earlier; store = m.store; tray = m.tray }

abbrev pub later : ℕ → Machine → Machine
later n m = at_cycle (m.next + n) m.model m

pub record Leads (s : System) (bits : List ℕ) (t : System) : Type 0 where
  pub state : state_after turn_of s bits ≡ t
  pub words : words_after turn_of s bits ≡ []

-- The last bit asks a machine for something, and the recogniser hunts again.
pub record Asks (s : System) (bits : List ℕ) (m : Machine) (q : Request) : Type 0 where
  pub state : state_after turn_of s bits ≡ system idle (respond_of m (requesting q)).state
  pub words : words_after turn_of s bits ≡ words_of (respond_of m (requesting q)).cycle

-- What follows bits that write nothing.
module _ {s t : System} {xs : List ℕ} (f : Leads s xs t) (ys : List ℕ) where
  pub state_behind : state_after turn_of s (xs ++ ys) ≡ state_after turn_of t ys
  state_behind = state_append turn_of s xs ys ∙ ap (λ (u : System). state_after turn_of u ys) f.state

  pub words_behind : words_after turn_of s (xs ++ ys) ≡ words_after turn_of t ys
  words_behind = words_append turn_of s xs ys ∙ (λ i. f.words i ++ words_after turn_of (f.state i) ys)

  pub leads_on : {u : System} → Leads t ys u → Leads s (xs ++ ys) u
  leads_on g = record { state = state_behind ∙ g.state; words = words_behind ∙ g.words }

  pub asks_behind : {m : Machine} {q : Request} → Asks t ys m q → Asks s (xs ++ ys) m q
  asks_behind g = record { state = state_behind ∙ g.state; words = words_behind ∙ g.words }

-- One cycle, by what the recogniser does in it.
turn_by_lem : (s : System) (bit : ℕ) (t : Transition) → transition_of s bit ≡ t → turn_of s bit ≡ turn_by t (respond_of s.machine t.event)
unfolding turn_of
turn_by_lem s bit t e = ap (λ (t : Transition). turn_by t (respond_of s.machine t.event)) e

pub passes : (s : System) (bit : ℕ) (r : Recogniser) → transition_of s bit ≡ move_to r Nothing → Leads s (bit ∷ []) (system r (later 1 s.machine))
unfolding act_of tray_of
passes s bit r e =
    let turn = turn_by_lem s bit (move_to r Nothing) e in
    record { state = ap (λ (t : Turned System). t.state) turn; words = ap (λ (t : Turned System). words_of t.cycle ++ []) turn }

nothing_more : (m : Machine) (q : Request) → words_of (respond_of m (requesting q)).cycle ++ [] ≡ words_of (respond_of m (requesting q)).cycle
nothing_more m q = append-nil _

pub asks : (s : System) (bit : ℕ) (q : Request) → transition_of s bit ≡ move_to idle q → Asks s (bit ∷ []) s.machine q
asks s bit q e =
    let turn = turn_by_lem s bit (move_to idle q) e in
    record {
      state = ap (λ (t : Turned System). t.state) turn;
      words = ap (λ (t : Turned System). words_of t.cycle ++ []) turn ∙ nothing_more s.machine q;
    }

-- The same state, at a cycle that is written in another way.
pub at_cycle_lem : {s : System} {bits : List ℕ} {r : Recogniser} {n k : ℕ} {model : Model} (m : Machine) → n ≡ k
    → Leads s bits (system r (at_cycle n model m)) → Leads s bits (system r (at_cycle k model m))
at_cycle_lem {r = r} {model = model} m e f = record { state = f.state ∙ ap (λ (n : ℕ). system r (at_cycle n model m)) e; words = f.words }

-- Zeros leave an empty window empty.
pub zeros_pass : (n : ℕ) (m : Machine) → Leads (system idle m) (zeros n) (system idle (later n m))
unfolding step_of
zeros_pass zero m = at_cycle_lem {n = m.next} m (omega arith) (record { state = refl; words = refl })
zeros_pass (suc n) m =
    at_cycle_lem {n = m.next + 1 + n} m (omega arith) (leads_on (passes (system idle m) 0 idle refl) (zeros n) (zeros_pass n (later 1 m)))
