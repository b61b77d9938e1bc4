-- A stretch is as many single cycles, all but the last of which ask for nothing; it takes one at least, and no more than there are.
-- Assumes nothing.
use mathlib.Core.Path.{◌≡◌, ◌∙◌, refl, ap}
use mathlib.Core.List.{List, [], ◌∷◌}
use Prim.Native.Nat.{ℕ, ◌≤◌}
use mathlib.Core.Logic.{◌≢◌}
use native.Mathlib.Omega.{arith}
use lib.Dec.{ltb}
use lib.ListN.{length}
use Rattle.bits.specs.Bits.{shifted}
use Rattle.bits.proofs.Truth.{cond_case, cond_taken}
use Rattle.recogniser.specs.declared.Phase.{Phase}
use Rattle.recogniser.specs.declared.Phase.TheVariants.{Hunt, Body, Field3, Field4, Field5}
use Rattle.windows.specs.declared.Meaning.{Meaning}
use Rattle.windows.specs.declared.Meaning.TheVariants.{Quiet, Trigger, Header}
use Rattle.recogniser.specs.declared.Request.TheVariants.{Nothing}
use Rattle.recogniser.specs.declared.Recogniser.{Recogniser}
use Rattle.recogniser.specs.declared.Transition.{Transition}
use Rattle.recogniser.specs.Parts.{start_of, no_event, move_to, gathered_of}
use Rattle.windows.specs.Windows.{meaning_of}
use Rattle.recogniser.specs.Hunting.{hunt_by, body_of}
use Rattle.recogniser.specs.Step.{step_of}
use Rattle.recogniser.proofs.StepByPhase.{step_at}
use Rattle.stretches.specs.declared.Stretch.{Stretch}
use Rattle.stretches.specs.Stretch.{stretched, one_more, hunt_beyond, hunt_on, body_on, step_on, stretch_by, stretch_of}

-- A stretch over the first of these bits: none, one cycle, or one that asks for nothing and a stretch from there.
pub data Passes (cnt : ℕ) : Recogniser → List ℕ → Stretch → Type 0 where
  ends : (r : Recogniser) → Passes cnt r [] (stretched 0 (move_to r Nothing))
  last : (r : Recogniser) (bit : ℕ) (bits : List ℕ) → Passes cnt r (bit ∷ bits) (stretched 1 (step_of r bit cnt))
  more : (r : Recogniser) (bit : ℕ) (bits : List ℕ) (s : Stretch) → (step_of r bit cnt).event ≡ no_event →
      Passes cnt (step_of r bit cnt).next bits s → Passes cnt r (bit ∷ bits) (one_more s)

-- A stretch by the phase.
pub stretch_at : (r : Recogniser) (cnt : ℕ) (bits : List ℕ) {p : Phase} → r.phase ≡ p → stretch_of r cnt bits ≡ stretch_by p r cnt bits
unfolding stretch_of
stretch_at r cnt bits e = ap (λ (q : Phase). stretch_by q r cnt bits) e

-- Where it neither hunts nor is in a body, a stretch is one cycle.
once_by : (r : Recogniser) (cnt : ℕ) (bits : List ℕ) (p : Phase) → p ≢ Hunt → p ≢ Body → stretch_by p r cnt bits ≡ step_on r cnt bits
once_by r cnt bits Hunt h b = absurd (h refl)
once_by r cnt bits Body h b = absurd (b refl)
once_by r cnt bits Field3 h b = refl
once_by r cnt bits Field4 h b = refl
once_by r cnt bits Field5 h b = refl

pub stretch_once : (r : Recogniser) (cnt : ℕ) (bits : List ℕ) → r.phase ≢ Hunt → r.phase ≢ Body → stretch_of r cnt bits ≡ step_on r cnt bits
unfolding stretch_of
stretch_once r cnt bits = once_by r cnt bits r.phase

module _ (cnt : ℕ) where
  ending : (r : Recogniser) (bit : ℕ) (bits : List ℕ) (h : Transition) → step_of r bit cnt ≡ h → Passes cnt r (bit ∷ bits) (stretched 1 h)
  ending r bit bits h e = rw (← e) (last r bit bits)

  going : (r : Recogniser) (bit : ℕ) (bits : List ℕ) (next : Recogniser) {s : Stretch} → step_of r bit cnt ≡ move_to next Nothing →
      Passes cnt next bits s → Passes cnt r (bit ∷ bits) (one_more s)
  going r bit bits next {s} e p = more r bit bits s (rw e) (rw e p)

  hunt_beyond_lem : (r : Recogniser) (bit : ℕ) (bits : List ℕ) (v : ℕ) (m : Meaning) → step_of r bit cnt ≡ hunt_by v m →
      Passes cnt (start_of Hunt v 0 0) bits (hunt_on v bits) → Passes cnt r (bit ∷ bits) (hunt_beyond v m (hunt_on v bits))
  hunt_beyond_lem r bit bits v Quiet e p = going r bit bits (start_of Hunt v 0 0) e p
  hunt_beyond_lem r bit bits v (Trigger position) e p = ending r bit bits (hunt_by v (Trigger position)) e
  hunt_beyond_lem r bit bits v Header e p = ending r bit bits (hunt_by v Header) e

  hunt_passes : (w : ℕ) (bits : List ℕ) → Passes cnt (start_of Hunt w 0 0) bits (hunt_on w bits)
  hunt_passes w [] = ends (start_of Hunt w 0 0)
  hunt_passes w (bit ∷ bits) =
      let v = shifted 5 w bit in
      hunt_beyond_lem (start_of Hunt w 0 0) bit bits v (meaning_of v) (step_at (start_of Hunt w 0 0) bit cnt refl) (hunt_passes v bits)

  body_passes : (r : Recogniser) → r.phase ≡ Body → (bits : List ℕ) → Passes cnt r bits (body_on r bits)
  body_passes r e [] = ends r
  body_passes r e (bit ∷ bits) =
      let g = gathered_of r (shifted 4 r.shift bit) in
      cond_case (Passes cnt r (bit ∷ bits)) (ltb r.count 3)
      (λ t. let f : body_of r bit ≡ g = cond_taken (ltb r.count 3) g _ t in
      rw f (going r bit bits g.next (step_at r bit cnt e ∙ f) (body_passes g.next e bits)))
      (λ _. ending r bit bits _ (step_at r bit cnt e))

  passes_by : (r : Recogniser) (bit : ℕ) (bits : List ℕ) (p : Phase) → r.phase ≡ p → Passes cnt r (bit ∷ bits) (stretch_by p r cnt (bit ∷ bits))
  passes_by r bit bits Hunt e =
      let v = shifted 5 r.shift bit in
      hunt_beyond_lem r bit bits v (meaning_of v) (step_at r bit cnt e) (hunt_passes v bits)
  passes_by r bit bits Body e = body_passes r e (bit ∷ bits)
  passes_by r bit bits Field3 e = last r bit bits
  passes_by r bit bits Field4 e = last r bit bits
  passes_by r bit bits Field5 e = last r bit bits

-- It takes one at least where there is one, and no more than there are.
pub passes_some : {cnt : ℕ} {r : Recogniser} {bits : List ℕ} {s : Stretch} → Passes cnt r bits s → 1 ≤ length bits → 1 ≤ s.taken
passes_some (ends r) h = h
passes_some (last r bit bits) h = omega arith
passes_some (more r bit bits s e p) h = omega arith

pub passes_within : {cnt : ℕ} {r : Recogniser} {bits : List ℕ} {s : Stretch} → Passes cnt r bits s → s.taken ≤ length bits
passes_within (ends r) = omega arith
passes_within (last r bit bits) = omega arith
passes_within (more r bit bits s e p) = omega (arith, passes_within p)

-- A stretch is single cycles.
pub stretch_passes : (r : Recogniser) (cnt bit : ℕ) (bits : List ℕ) → Passes cnt r (bit ∷ bits) (stretch_of r cnt (bit ∷ bits))
unfolding stretch_of
stretch_passes r cnt bit bits = passes_by cnt r bit bits r.phase refl
