-- A loop that stores numbers one after the other: what is left of them, stored from the present place on, gives what all of them give.
-- Assumes nothing.
use mathlib.Core.List.{List, ◌++◌, append-nil}
use mathlib.Core.Path.{◌≡◌, refl, ap, subst, ◌∙◌}
use Prim.Native.Nat.{ℕ, suc, ◌+◌, ◌≤◌, ◌<◌}
use native.Mathlib.Nat.{add-zero}
use native.Mathlib.Numerals.{add-one}
use native.Mathlib.Omega.{arith}
use lib.ListN.{length, get_or, set, drop, length-set, drop_of_length-le}
use lib.Seq.{sets, sets-eq, drop-cons}

pub record Invariant (out₀ : List ℕ) (at : ℕ) (numbers out : List ℕ) (n : ℕ) : Type 0 where
  pub low : n ≤ length numbers
  pub same : length out ≡ length out₀
  pub rest : sets out (at + n) (drop n numbers) ≡ sets out₀ at numbers

pub initially : (out : List ℕ) (at : ℕ) (numbers : List ℕ) → Invariant out at numbers out 0
initially out at numbers = record { low = omega arith; same = refl; rest = rw add-zero }

module _ {out₀ : List ℕ} {at : ℕ} {numbers out : List ℕ} {n : ℕ} (i : Invariant out₀ at numbers out n) {size : ℕ} (count : length numbers ≡ size) where
  pub again : n < size → Invariant out₀ at numbers (set out (at + n) (get_or numbers n 0)) (n + 1)
  again more =
      let e : at + (n + 1) ≡ suc (at + n) = omega arith in
      let inside : n < length numbers = omega (arith, count, more) in
      record {
        low = omega (arith, inside);
        same = length-set out (at + n) (get_or numbers n 0) ∙ i.same;
        rest = rw (e, add-one n) (rw (drop-cons numbers n 0 inside) at i.rest);
      }

  -- from the first place on, a number by what it is equal to
  pub again_first : at ≡ 0 → n < size → (x : ℕ) → get_or numbers n 0 ≡ x → Invariant out₀ at numbers (set out n x) (n + 1)
  again_first e more x is =
      let place : at + n ≡ n = omega (arith, e) in
      subst (λ (k : ℕ). Invariant out₀ at numbers (set out k x) (n + 1)) place
      (subst (λ (y : ℕ). Invariant out₀ at numbers (set out (at + n) y) (n + 1)) is (again more))

  pub over : size ≤ n → out ≡ sets out₀ at numbers
  over h = rw (drop_of_length-le numbers {i = n} (omega (arith, count, h))) at i.rest

-- A list of as many is covered whole.
pub covered : (out numbers : List ℕ) → length out ≡ length numbers → sets out 0 numbers ≡ numbers
covered out numbers e =
    let end = drop_of_length-le out {i = 0 + length numbers} (omega (arith, e)) in
    sets-eq numbers out 0 (omega (arith, e)) ∙ ap (λ (r : List ℕ). numbers ++ r) end ∙ append-nil numbers
