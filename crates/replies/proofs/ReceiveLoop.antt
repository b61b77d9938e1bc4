-- What the loop over the bits of a range keeps: what comes of those that are left is what comes of all.
-- Assumes nothing.
use mathlib.Core.Path.{◌≡◌, ◌∙◌, refl, sym, ap, subst}
use mathlib.Core.Bool.{true, false}
use mathlib.Core.List.{List, ◌∷◌}
use Prim.Native.Nat.{ℕ, ◌+◌, ◌-◌, ◌<◌}
use native.Mathlib.Omega.{arith}
use lib.ListN.{length}
use Rattle.bits.specs.Bits.{bit_of, bits_of}
use Rattle.bits.specs.declared.Cursor.{Cursor}
use Rattle.bits.specs.Place.{cursor_at, place_under}
use Rattle.bits.proofs.BitRanges.{bits_over}
use Rattle.bits.proofs.Places.{Stands, stands, bits_left}
use Rattle.replies.specs.Reception.{Received, is_whole, step_of, after_of, Fits}
use Rattle.replies.proofs.Kept.{one_more, none_more, whole_stays, step_fits, step_length}

pub record Invariant (input : List ℕ) (first count : ℕ) (from : Received) (at : Cursor) (done : ℕ) (r : Received) : Type 0 where
  pub place : Stands at (first + done)
  pub fits : Fits r.reception
  pub long : length r.buffer ≡ length from.buffer
  pub same : after_of r (bits_of input (place_under at) (count - done)) ≡ after_of from (bits_of input first count)

module _ {input : List ℕ} {first count : ℕ} {from : Received} where
  pub initially : Fits from.reception → (at : Cursor) → at ≡ cursor_at first → Invariant input first count from at 0 from
  initially f at e =
      let s = stands e in
      let all : count - 0 ≡ count = omega arith in
      record {
        place = record { inside = s.inside; under = omega (arith, s) };
        fits = f;
        long = refl;
        same = λ i. after_of from (bits_of input (s.under i) (all i));
      }

  module _ {at : Cursor} {done : ℕ} {r : Received} (i : Invariant input first count from at done r) where
    -- one bit more
    pub again : (bit : ℕ) (s : Received) (next : Cursor) → bit ≡ bit_of input (place_under at) → s ≡ step_of r bit → next ≡ cursor_at (place_under at + 1)
        → done < count → is_whole r.reception ≡ false → Invariant input first count from next (done + 1) s
    again bit s next b e n h more =
        let p = stands n in
        let fewer : count - (done + 1) ≡ count - done - 1 = omega arith in
        let rest = bits_of input (place_under next) (count - done - 1) in
        record {
          place = record { inside = p.inside; under = omega (arith, p, i.place) };
          fits = subst (λ (q : Received). Fits q.reception) (sym e) (step_fits r.reception r.buffer bit i.fits more);
          long = ap (λ (q : Received). length q.buffer) e ∙ step_length r bit ∙ i.long;
          same = rw fewer
              (ap (λ (q : Received). after_of q rest) e
              ∙ sym (one_more r bit rest more)
              ∙ ap (λ (v : ℕ). after_of r (v ∷ rest)) b
              ∙ ap (after_of r) (sym (bits_left input at next (count - done) n (omega arith)))
              ∙ i.same);
        }

    -- all bits, or a whole reply, of which no bits say more
    pub over : done ≡ count → r ≡ after_of from (bits_of input first count)
    over h = sym (none_more r) ∙ ap (after_of r) (sym (bits_over input (place_under at) (omega arith))) ∙ i.same

    pub whole : is_whole r.reception ≡ true → r ≡ after_of from (bits_of input first count)
    whole e = sym (whole_stays r (bits_of input (place_under at) (count - done)) e) ∙ i.same
