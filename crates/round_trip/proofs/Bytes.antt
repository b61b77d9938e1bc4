-- The output of an accepted composing holds the stream.
-- Assumes nothing.
use mathlib.Core.Bool.{Bool, true, false, cond, not}
use mathlib.Core.List.{List}
use mathlib.Core.Path.{◌≡◌, ◌∙◌, refl, sym, ap, subst}
use Prim.Native.Nat.{ℕ, ◌*◌, ◌≤◌}
use native.Mathlib.Nat.{zero-add}
use native.Mathlib.Omega.{arith}
use lib.Dec.{T, leb, eqb}
use lib.ListN.{length, get_or-eq_default}
use lib.Seq.{sets, length-sets}
use borrow.Author.Tests.{leb-true, eqb-true, eqb-false}
use Rattle.limits.specs.Limits.{clock_limit}
use Rattle.bits.specs.Bits.{bit_of}
use Rattle.bits.proofs.Truth.{both}
use Rattle.bits.proofs.BitRanges.{binary}
use Rattle.plans.specs.declared.Plan.{Plan}
use Rattle.plans.specs.Plan.{plan_fits}
use Rattle.orders.specs.Composed.{Composed}
use Rattle.orders.specs.Fields.{Ordered}
use Rattle.orders.specs.Streams.{stream_of, packed}
use Rattle.orders.specs.Composing.{start, refusal_from, room_fits, ComposeResult, compose_result, composed, compose_of}
use Rattle.orders.proofs.Packing.{bits_same, written_read, written_beyond}
use Rattle.orders.proofs.StreamBits.{stream_binary}
use Rattle.round_trip.specs.Bytes.{HoldsBits, ComposedBytes, Bytes}

-- Packed bits hold themselves.
pub packed_holds : (bits output : List ℕ) → T (binary bits) → length bits ≤ 8 * length output → HoldsBits bits output (sets output 0 (packed bits))
packed_holds bits output b room = record {
  read = bits_same bits (sets output 0 (packed bits)) 0
      (λ i h. ap (bit_of (sets output 0 (packed bits))) (zero-add i) ∙ written_read bits output room b i (omega arith));
  filled_up = λ i past inside. written_read bits output room b i inside ∙ get_or-eq_default bits 0 past;
  unchanged = written_beyond bits output room;
  long = length-sets output 0 (packed bits);
}

-- What an accepted answer went by: each test on the way, by the answer that it would give else.
record Accepts (plan room : Bool) (refusal : Composed) : Type 0 where
  plan_fits_lem : plan ≡ true
  orders_fit : refusal.number ≡ 0
  has_room : room ≡ true

abbrev answer : Bool → Bool → Composed → ComposeResult → List ℕ → ComposeResult
answer plan room refusal written output =
    cond (not plan) (compose_result (composed 1 0 0) output)
    (cond (eqb refusal.number 0) (cond room written (compose_result (composed 11 0 0) output)) (compose_result refusal output))

accepts : (plan room orders : Bool) (refusal : Composed) (written : ComposeResult) (output : List ℕ) → eqb refusal.number 0 ≡ orders
    → (answer plan room refusal written output).answer.number ≡ 0 → Accepts plan room refusal
accepts true true true refusal written output e h = record { plan_fits_lem = refl; orders_fit = eqb-true refusal.number 0 e; has_room = refl }
accepts true false true refusal written output e h = let z : ◌≡◌ {A = ℕ} 11 0 = rw e at h in absurd (omega arith)
accepts true room false refusal written output e h = let z : refusal.number ≡ 0 = rw e at h in absurd (eqb-false refusal.number 0 e z)
accepts false room orders refusal written output e h = absurd (omega arith)

module _ (plan : Plan) (xs : List Ordered) (output : List ℕ) (h : (compose_of plan xs output).answer.number ≡ 0) where
  abbrev bits : List ℕ
  bits = stream_of xs

  abbrev refusal : Composed
  refusal = refusal_from plan start 0 xs

  accepted : Accepts (plan_fits plan) (room_fits (length bits) (length output)) refusal
  unfolding compose_of
  accepted =
      accepts (plan_fits plan) (room_fits (length bits) (length output)) (eqb refusal.number 0) refusal
      (compose_result (composed 0 0 (length bits)) (sets output 0 (packed bits))) output refl h

  result : compose_of plan xs output ≡ compose_result (composed 0 0 (length bits)) (sets output 0 (packed bits))
  unfolding compose_of
  result = rw (accepted.plan_fits_lem, accepted.orders_fit, accepted.has_room)

  composed_bytes : ComposedBytes plan xs output
  composed_bytes =
      let room = both (leb (length bits) clock_limit) (leb (length bits) (8 * length output)) accepted.has_room in
      let wide = leb-true (length bits) (8 * length output) room.1 in
      record {
        fit = record { plan_fits_lem = accepted.plan_fits_lem; orders_fit = accepted.orders_fit };
        count = ap (λ (r : ComposeResult). r.answer.bits) result;
        clock = leb-true (length bits) clock_limit room.0;
        holds = subst (HoldsBits bits output) (sym (ap (λ (r : ComposeResult). r.output) result)) (packed_holds bits output (stream_binary xs) wide);
      }

pub bytes : Bytes
bytes = composed_bytes
