-- Steps in a row: when one is made, and what they keep together.
-- Assumes nothing.
use Rattle.std.proofs.Common.{◌≡◌, ℕ, ◌+◌, ◌-◌, ◌<◌, ◌≤◌, Bool, true, not, ◌||◌, eqb, ltb, leb, List, ◌++◌, length, drop, refl, ap, ◌∙◌, ⊎_elim, arith, ltb-true, leb-true}
use borrow.Author.Tests.{eqb-false, not-true}
use Rattle.bits.proofs.Truth.{both, either}
use Rattle.program.specs.declared.RunState.{RunState}
use Rattle.program.specs.RunState.{Snapshot, all_printed, step_room, WellFormed, StepReady, AfterTake, AfterSteps, can_step}

module _ (input output : ℕ) (s : RunState) (e : can_step input output s ≡ true) where
  -- what the test says, part by part
  parts : (not s.over ≡ true) × ((not (eqb s.count 0) || ltb s.next input) ≡ true) × (leb step_room (output - s.filled) ≡ true)
  unfolding can_step
  parts =
      let p = both (not s.over) _ e in
      let q = both (not (eqb s.count 0) || ltb s.next input) (leb step_room (output - s.filled)) p.1 in
      (p.0, q.0, q.1)

  pub more_input : s.count ≡ 0 → s.next < input
  more_input none =
      ⊎_elim
      (λ a. absurd (eqb-false s.count 0 (not-true _ a) none))
      (λ b. ltb-true s.next input b)
      (either (not (eqb s.count 0)) (ltb s.next input) parts.1)

pub step_ready : (input : ℕ) (g : Snapshot) → WellFormed g → can_step input (length g.out) g.state ≡ true → StepReady g
step_ready input g w e =
    let p = parts input (length g.out) g.state e in
    record { well_formed = w; not_over = not-true _ p.0; room = omega (arith, leb-true step_room (length g.out - g.state.filled) p.2, w.filled) }

-- A taking call is a step, and steps in a row are steps.
pub by_taking : {frames : Bool} {g h : Snapshot} (input : List ℕ) → AfterTake frames g h → g.state.next ≤ length input → AfterSteps frames input g h
by_taking {frames} {g} {h} input t low = record {
  well_formed = t.well_formed;
  same_listing = λ rest.
      t.same_listing (drop h.state.next input ++ rest) ∙ ap (λ (n : ℕ). all_printed frames g (drop n input ++ rest)) t.same_next;
  within = rw t.same_next low;
  same_length = t.same_length;
  same_eof = t.same_eof;
}

module _ {frames : Bool} {input : List ℕ} where
  pub no_steps : (g : Snapshot) → WellFormed g → g.state.next ≤ length input → AfterSteps frames input g g
  no_steps g w low = record { well_formed = w; same_listing = λ rest. refl; within = low; same_length = refl; same_eof = refl }

  pub more_steps : {g h k : Snapshot} → AfterSteps frames input g h → AfterSteps frames input h k → AfterSteps frames input g k
  more_steps p q = record {
    well_formed = q.well_formed;
    same_listing = λ rest. q.same_listing rest ∙ p.same_listing rest;
    within = q.within;
    same_length = q.same_length ∙ p.same_length;
    same_eof = q.same_eof ∙ p.same_eof;
  }
