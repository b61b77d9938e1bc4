-- What the loop over the bits of a range keeps: whatever more bits come, what is said of those that are left is what is said of all.
-- Assumes nothing.
use mathlib.Core.Path.{◌≡◌, ◌∙◌, sym, ap}
use mathlib.Core.List.{List, [], ◌∷◌, ◌++◌}
use Prim.Native.Nat.{ℕ, ◌+◌, ◌-◌, ◌≤◌, ◌<◌}
use native.Mathlib.Omega.{arith}
use Rattle.bits.specs.Bits.{bit_of, bits_of}
use Rattle.bits.specs.declared.Cursor.{Cursor}
use Rattle.bits.specs.Place.{cursor_at, place_under}
use Rattle.bits.proofs.BitRanges.{length_bits, bits_over}
use Rattle.bits.proofs.Places.{Stands, stands, bits_left}
use Rattle.acceptance.specs.declared.Progress.{Progress}
use Rattle.acceptance.specs.Progress.{verdict_on, reached, Fits, After}
use Rattle.acceptance.proofs.Steps.{at_fault}

pub record Invariant (input : List ℕ) (first count : ℕ) (from : Progress) (at : Cursor) (done : ℕ) (p : Progress) : Type 0 where
  pub place : Stands at (first + done)
  pub fits : Fits p
  pub near : reached p ≤ reached from + done
  pub same : (more : List ℕ) → verdict_on p (bits_of input (place_under at) (count - done) ++ more) ≡ verdict_on from (bits_of input first count ++ more)

module _ {input : List ℕ} {first count : ℕ} {from : Progress} where
  pub initially : Fits from → (at : Cursor) → at ≡ cursor_at first → Invariant input first count from at 0 from
  initially f at e =
      let s = stands e in
      let all : count - 0 ≡ count = omega arith in
      record {
        place = record { inside = s.inside; under = omega (arith, s) };
        fits = f;
        near = omega arith;
        same = λ more. (λ i. verdict_on from (bits_of input (s.under i) (all i) ++ more));
      }

  module _ {at : Cursor} {done : ℕ} {p : Progress} (i : Invariant input first count from at done p) where
    -- one bit more
    pub again : (bit : ℕ) (r : Progress) (next : Cursor) → bit ≡ bit_of input (place_under at) → After p (bit ∷ []) r → next ≡ cursor_at (place_under at + 1)
        → done < count → Invariant input first count from next (done + 1) r
    again bit r next b a n h =
        let s = stands n in
        let fewer : count - (done + 1) ≡ count - done - 1 = omega arith in
        record {
          place = record { inside = s.inside; under = omega (arith, s, i.place) };
          fits = a.fits;
          near = omega (arith, a.near, i.near);
          same = rw fewer (λ more.
              let rest = bits_of input (place_under next) (count - done - 1) in
              a.same (rest ++ more)
              ∙ ap (λ (v : ℕ). verdict_on p (v ∷ (rest ++ more))) b
              ∙ ap (λ (l : List ℕ). verdict_on p (l ++ more)) (sym (bits_left input at next (count - done) n (omega arith)))
              ∙ i.same more);
        }

    ended : done ≤ count → ((more : List ℕ) → verdict_on p more ≡ verdict_on p (bits_of input (place_under at) (count - done) ++ more))
        → After from (bits_of input first count) p
    ended few same = record {
      fits = i.fits;
      near = omega (arith, i.near, length_bits input first count);
      same = λ more. same more ∙ i.same more;
    }

    -- all bits, or a pattern at fault, of which no bits say more
    pub over : done ≡ count → After from (bits_of input first count) p
    over h = ended (omega arith) (λ more. ap (λ (l : List ℕ). verdict_on p (l ++ more)) (sym (bits_over input (place_under at) (omega arith))))

    pub refused : done ≤ count → (p.fault ≡ 0 → ⊥) → After from (bits_of input first count) p
    refused few n = ended few (λ more. at_fault p more n ∙ sym (at_fault p _ n))
