-- The outcome of a run.
-- Assumes nothing.
use mathlib.Core.Bool.{true, false}
use mathlib.Core.List.{List, []}
use mathlib.Core.Path.{◌≡◌, ◌∙◌, refl, ap}
use Prim.Native.Nat.{ℕ, ◌+◌, ◌/◌}
use native.Mathlib.Nat.{add-zero}
use native.Mathlib.Omega.{arith}
use lib.ListN.{length}
use lib.Seq.{sets, length-sets}
use borrow.Author.Tests.{ne_eqb}
use Rattle.orders.specs.Streams.{packed_from}
use Rattle.orders.specs.Composing.{room_fits}
use Rattle.order_refusals.specs.declared.Refusal.{Refusal}
use Rattle.order_refusals.specs.declared.Refusal.TheVariants.{LongStream}
use Rattle.order_refusals.specs.Refusals.{refused}
use Rattle.order_refusals.proofs.Refusals.{refused_number}
use Rattle.std.proofs.Common.{Some, None, Result, Ok, Err}
use Rattle.compositions.specs.declared.Composition.{Composition}
use Rattle.compositions.specs.Compositions.{output_limit, outcome_of, outcome_number, composition_of, WellFormed, Finishes}
use Rattle.compositions.proofs.Rooms.{has_room}

module _ (s : Composition) (out : List ℕ) (w : WellFormed s out) where
  pub outcome_refused : (r : Refusal) → s.refusal ≡ Some r → Finishes s out (Err r) out
  unfolding composition_of
  outcome_refused r e = record { same = rw e (simp (ne_eqb (refused r).number 0 (refused_number r))); within = tt; long = w.whole }

  module _ (z : s.refusal ≡ None) where
    pub outcome_long : room_fits s.bits output_limit ≡ false → Finishes s out (Err LongStream) out
    unfolding composition_of
    outcome_long r = record { same = rw z (simp (add-zero, r)); within = tt; long = w.whole }

    pub outcome_whole : room_fits s.bits output_limit ≡ true → (now : List ℕ)
        → now ≡ sets out s.writer.at (packed_from s.writer.held s.writer.filled []) → Finishes s out (Ok ((s.bits + 7) / 8)) now
    unfolding composition_of
    outcome_whole r now e = record {
      same = rw z (simp (add-zero, r) (rw e));
      within = omega (arith, has_room s.bits r);
      long = ap length e ∙ length-sets out s.writer.at (packed_from s.writer.held s.writer.filled []) ∙ w.whole;
    }

-- The number of an outcome.
pub number_told : (o : Result ℕ Refusal) (now : List ℕ) → outcome_number o ≡ (outcome_of o now).refusal.number
number_told (Ok bytes) now = refl
number_told (Err r) now = refl
