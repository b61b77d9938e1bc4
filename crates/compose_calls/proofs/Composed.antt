-- What composing comes to, by the check of all orders.
-- Assumes nothing.
use mathlib.Core.Bool.{true, false}
use mathlib.Core.List.{List, [], append-nil}
use mathlib.Core.Logic.{⊎_elim}
use mathlib.Core.Path.{◌≡◌, ◌∙◌, sym, ap}
use Prim.Native.Nat.{ℕ, ◌+◌, ◌*◌, ◌≤◌}
use native.Mathlib.Omega.{arith}
use lib.Dec.{leb, eqb}
use lib.ListN.{length}
use lib.Seq.{sets}
use borrow.Author.Tests.{eq-eqb, ne_eqb, le-leb, leb-true, eqb-true}
use Rattle.limits.specs.Limits.{clock_limit}
use Rattle.bits.proofs.Truth.{cases, both}
use Rattle.plans.specs.declared.Plan.{Plan}
use Rattle.plans.specs.Plan.{plan_fits}
use Rattle.orders.specs.Composed.{Composed}
use Rattle.orders.specs.Fields.{Ordered}
use Rattle.orders.specs.Streams.{packed_from, packed, stream_of}
use Rattle.orders.specs.Composing.{start, composed, refusal_from, room_fits, compose_result, written_of, compose_of}
use Rattle.stream_writer.specs.declared.Writer.{Writer}
use Rattle.stream_writer.specs.Writer as writer
use Rattle.stream_writer.specs.Writer.{Wrote}
use Rattle.composing.specs.Checked.{Room, capped, checked_of}
use Rattle.contexts.specs.declared.OrderFault.{OrderFault}
use Rattle.contexts.specs.declared.OrderFault.TheVariants as contexts
use Rattle.contexts.specs.declared.OrderFault.TheVariants.{TooFewZeros}
use Rattle.contexts.specs.Faults.{fault_number}
use Rattle.compose_calls.specs.declared.ComposeError.{ComposeError}
use Rattle.compose_calls.specs.declared.ComposeError.TheVariants.{WrongPlan, WrongOrder, StreamTooLong}
use Rattle.compose_calls.specs.AllFit.{AllFit}
use Rattle.compose_calls.specs.Answers.{refused as refused_as}

-- A refusal has a number.
pub fault_some : (fault : OrderFault) → fault_number fault ≡ 0 → ⊥
fault_some contexts.WrongOrder z = omega (arith, z)
fault_some TooFewZeros z = omega (arith, z)

pub error_some : (error : ComposeError) → (refused_as error).number ≡ 0 → ⊥
error_some WrongPlan z = omega (arith, z)
error_some (WrongOrder fault order) z = fault_some fault z
error_some StreamTooLong z = omega (arith, z)

module _ (plan : Plan) (xs : List Ordered) (out : List ℕ) where
  -- the plan
  pub wrong_plan : plan_fits plan ≡ false → compose_result (composed 1 0 0) out ≡ compose_of plan xs out
  unfolding compose_of
  wrong_plan e = simp e

  -- an order that is refused, as the check says it
  abbrev refusal : Composed
  refusal = refusal_from plan start 0 xs

  checked_number : (checked_of plan xs).number ≡ refusal.number
  unfolding checked_of
  checked_number =
      ⊎_elim (λ (t : eqb refusal.number 0 ≡ true). rw t (sym (eqb-true refusal.number 0 t)))
      (λ (f : eqb refusal.number 0 ≡ false). rw f) (cases (eqb refusal.number 0))

  pub refused : plan_fits plan ≡ true → ((checked_of plan xs).number ≡ 0 → ⊥) → compose_result (checked_of plan xs) out ≡ compose_of plan xs out
  unfolding compose_of checked_of
  refused e some =
      let n : refusal.number ≡ 0 → ⊥ = λ z. some (checked_number ∙ z) in
      simp (e, ne_eqb refusal.number 0 n)

  -- none is
  module _ (e : plan_fits plan ≡ true) (none : (checked_of plan xs).number ≡ 0) where
    not_refused : refusal.number ≡ 0
    not_refused = sym checked_number ∙ none

    pub all_fit : AllFit xs
    all_fit = record { plan = plan; context = start; number = 0; narrow = omega arith; none = not_refused }

    pub checked_bits : checked_of plan xs ≡ composed 0 0 (capped (length (stream_of xs)))
    unfolding checked_of
    checked_bits = simp (eq-eqb refusal.number 0 not_refused)

    written : compose_of plan xs out ≡ written_of (stream_of xs) out
    unfolding compose_of
    written = simp (e, eq-eqb refusal.number 0 not_refused)

    -- the room, by the count that is capped
    room_capped : (n bytes : ℕ) → room_fits (capped n) bytes ≡ room_fits n bytes
    room_capped n bytes =
        ⊎_elim (λ (t : leb n clock_limit ≡ true). let same : capped n ≡ n = simp t in ap (λ k. room_fits k bytes) same)
        (λ (f : leb n clock_limit ≡ false).
        let over : capped n ≡ clock_limit + 1 = simp f in
        let none : room_fits n bytes ≡ false = simp f in
        ap (λ k. room_fits k bytes) over ∙ sym none)
        (cases (leb n clock_limit))

    pub too_long : room_fits (checked_of plan xs).bits (length out) ≡ false → compose_result (composed 11 0 0) out ≡ compose_of plan xs out
    too_long r =
        let f = sym (room_capped (length (stream_of xs)) (length out)) ∙ ap (λ (c : Composed). room_fits c.bits (length out)) (sym checked_bits) ∙ r in
        sym (written ∙ simp f)

    module _ (r : room_fits (checked_of plan xs).bits (length out) ≡ true) where
      fits : room_fits (length (stream_of xs)) (length out) ≡ true
      fits = sym (room_capped (length (stream_of xs)) (length out)) ∙ ap (λ (c : Composed). room_fits c.bits (length out)) (sym checked_bits) ∙ r

      within : (length (stream_of xs) ≤ clock_limit) × (length (stream_of xs) ≤ 8 * length out)
      within =
          let s = both (leb (length (stream_of xs)) clock_limit) (leb (length (stream_of xs)) (8 * length out)) fits in
          (leb-true (length (stream_of xs)) clock_limit s.0, leb-true (length (stream_of xs)) (8 * length out) s.1)

      pub room : Room writer.start out (stream_of xs)
      room = let w = within in omega arith

      -- all bits are written, and the last byte is filled up
      pub whole : (v : Writer) (now : List ℕ) → Wrote writer.start out (stream_of xs) v now
          → compose_result (checked_of plan xs) (sets now v.at (packed_from v.held v.filled [])) ≡ compose_of plan xs out
      whole v now w =
          let count : capped (length (stream_of xs)) ≡ length (stream_of xs) = simp (le-leb (length (stream_of xs)) clock_limit within.0) in
          let bytes : sets now v.at (packed_from v.held v.filled []) ≡ sets out 0 (packed (stream_of xs)) =
          w.same [] ∙ ap (λ (l : List ℕ). sets out 0 (packed l)) (append-nil (stream_of xs)) in
          (λ i. compose_result ((checked_bits ∙ ap (composed 0 0) count) i) (bytes i)) ∙ sym (written ∙ simp fits)
