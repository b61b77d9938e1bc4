-- What a request of a clean or damaged stream does to the model in RunMode, and the phases that such a stream keeps to.
-- Assumes nothing.
use mathlib.Core.Path.{◌≡◌, ◌∙◌, refl, ap}
use mathlib.Core.Bool.{Bool, true, false, cond, not}
use mathlib.Core.List.{List, [], ◌∷◌}
use Prim.Native.Nat.{ℕ, ◌<◌}
use native.Mathlib.Omega.{arith}
use lib.Dec.{eqb, ltb, T}
use borrow.Author.Tests.{ltb-true}
use Rattle.bits.specs.Bits.{shifted}
use Rattle.bits.proofs.Truth.{cond_case}
use Rattle.recogniser.specs.declared.Phase.{Phase}
use Rattle.recogniser.specs.declared.Phase.TheVariants.{Hunt, Body, Field3, Field4, Field5}
use Rattle.windows.specs.declared.Meaning.{Meaning}
use Rattle.windows.specs.declared.Meaning.TheVariants.{Quiet, Trigger, Header}
use Rattle.recogniser.specs.declared.SlowRequest.TheVariants.{LeaveRunMode}
use Rattle.recogniser.specs.declared.Request.{Request}
use Rattle.recogniser.specs.declared.Request.TheVariants.{Nothing, Lv1, Fast, BadFast, Slow}
use Rattle.recogniser.specs.declared.Recogniser.{Recogniser}
use Rattle.recogniser.specs.declared.Transition.{Transition}
use Rattle.recogniser.specs.Parts.{start_of, idle, move_to, gathered_of}
use Rattle.windows.specs.Windows.{meaning_of, is_fast}
use Rattle.recogniser.specs.Hunting.{hunt_by}
use Rattle.recogniser.specs.Step.{step_by, step_of}
use Rattle.plans.specs.declared.Plan.{Plan}
use Rattle.registers.specs.declared.Model.{Model}
use Rattle.records.specs.declared.Cycle.{Cycle}
use Rattle.records.specs.declared.Record.{Record}
use Rattle.records.specs.Records.{words_of, record_words}
use Rattle.triggers.specs.Triggers.{sends_of, lv1_record, fast_record, bad_fast_record, fast_effect}
use Rattle.controller.specs.Commands.{act_of}
use Rattle.controller.specs.Requests.{request_fits}
use Rattle.timing.specs.declared.Earlier.{Earlier}
use Rattle.timing.specs.TooClose.{earlier_of, flagged, flagged_cycle, earlier_after}
use Rattle.timing.proofs.Flagged.{short_flagged}
use Rattle.decoder.specs.Sound.{inside_slow}
use Rattle.damage.specs.Records.{Ahead, ahead, request_records, ahead_after}

-- The phases outside Slow commands, and the requests that lead into none.
abbrev pub outside_slow : Phase → Bool
outside_slow p = not (inside_slow p)

abbrev pub no_slow : Request → Bool
no_slow Nothing = true
no_slow (Lv1 position) = true
no_slow (Fast body) = true
no_slow (BadFast body) = true
no_slow (Slow slow) = false

-- Outside Slow commands CNT does not matter.
module _ (r : Recogniser) (bit cnt : ℕ) where
  any_cnt : (p : Phase) → T (outside_slow p) → step_by p r bit cnt ≡ step_by p r bit 0
  any_cnt Hunt h = refl
  any_cnt Body h = refl
  any_cnt Field3 h = refl
  any_cnt Field4 h = absurd h
  any_cnt Field5 h = absurd h

  pub step_any_cnt : T (outside_slow r.phase) → step_of r bit cnt ≡ step_of r bit 0
  unfolding step_of
  step_any_cnt h = any_cnt r.phase h

-- A request outside Slow commands leaves the recogniser outside them.
abbrev StaysOutside : Transition → Type 0
StaysOutside h = T (no_slow h.event.request) → T (outside_slow h.next.phase)

hunt_stays_outside : (w : ℕ) (m : Meaning) → StaysOutside (hunt_by w m)
hunt_stays_outside w Quiet h = tt
hunt_stays_outside w (Trigger position) h = tt
hunt_stays_outside w Header h = tt

module _ (r : Recogniser) (bit : ℕ) (now : T (outside_slow r.phase)) where
  phase_stays_outside : (p : Phase) → T (outside_slow p) → StaysOutside (step_by p r bit 0)
  phase_stays_outside Hunt q = hunt_stays_outside (shifted 5 r.shift bit) (meaning_of (shifted 5 r.shift bit))
  phase_stays_outside Body q =
      let body : ℕ = shifted 4 r.shift bit in
      cond_case StaysOutside (ltb r.count 3) {x = gathered_of r body} (λ _ h. now)
      (λ _. cond_case StaysOutside (is_fast body) {x = move_to idle (Fast body)} (λ _ h. tt)
      (λ _. cond_case StaysOutside (eqb body 0b1011) {x = move_to (start_of Field3 0 0 0) (Slow LeaveRunMode)} {y = move_to idle (BadFast body)}
      (λ _ h. absurd h) (λ _ h. tt)))
  phase_stays_outside Field3 q = absurd q
  phase_stays_outside Field4 q = absurd q
  phase_stays_outside Field5 q = absurd q

  pub step_stays_outside : StaysOutside (step_of r bit 0)
  unfolding step_of
  step_stays_outside = phase_stays_outside r.phase now

-- From an empty window nothing but the window matters.
pub from_empty : (r : Recogniser) (bit : ℕ) → r.phase ≡ Hunt → r.shift ≡ 0 → step_of r bit 0 ≡ step_of idle bit 0
unfolding step_of
from_empty r bit hunts empty =
    ap (λ (p : Phase). step_by p r bit 0) hunts ∙ ap (λ (s : ℕ). hunt_by (shifted 5 s bit) (meaning_of (shifted 5 s bit))) empty

-- What a request outside Slow commands does in RunMode is what the records' definitions say.
module _ (plan : Plan) (m : Model) (e : Earlier) (cnt time : ℕ) (store : List ℕ) where
  abbrev before : Ahead
  before = ahead m.counters e

  abbrev answer : Request → Cycle
  answer q = flagged_cycle e cnt (act_of plan m q time store).acted.cycle

  pub record Does (q : Request) : Type 0 where
    pub words : words_of (answer q) ≡ record_words (request_records (sends_of plan m) before time q)
    pub after : ahead (act_of plan m q time store).acted.model.counters (earlier_after e (answer q)) ≡ ahead_after before time q
    pub running : (act_of plan m q time store).acted.model.running ≡ true
    pub registers : (act_of plan m q time store).acted.model.registers ≡ m.registers

  -- CNT does not matter to its flag
  any_cnt_words : (r : Record) → r.kind < 0x20 → record_words (flagged e cnt r ∷ []) ≡ record_words (flagged e 0 r ∷ [])
  any_cnt_words r low = ap (λ (x : Record). record_words (x ∷ [])) (short_flagged e cnt r low)

  module _ (on : m.running ≡ true) where
    pub does : (q : Request) → request_fits q ≡ true → T (no_slow q) → Does q
    unfolding act_of
    does Nothing fits h = record { words = refl; after = refl; running = on; registers = refl }
    does (Lv1 position) fits h = record {
      words = rw on (any_cnt_words (lv1_record true position (sends_of plan m) m.counters time) (omega arith));
      after = rw on;
      running = on;
      registers = refl;
    }
    does (Fast body) fits h =
        let low = ltb-true body 16 fits in
        let after : Bool → Model = λ b. cond b (fast_effect m body time) m in
        record {
          words = rw on (any_cnt_words (fast_record true body time) (omega arith));
          after = ap (λ b. ahead (after b).counters (earlier_of (fast_record true body time))) on;
          running = ap (λ b. (after b).running) on ∙ on;
          registers = ap (λ b. (after b).registers) on;
        }
    does (BadFast body) fits h = record { words = any_cnt_words (bad_fast_record body time) (omega arith); after = refl; running = on; registers = refl }
    does (Slow slow) fits h = absurd h
