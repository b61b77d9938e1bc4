-- A loop that compares two lists of as many words: what is left of them from the present place on decides as the whole does.
-- Assumes nothing.
use mathlib.Core.Bool.{true, false}
use mathlib.Core.List.{List, ◌∷◌}
use mathlib.Core.Path.{◌≡◌, refl}
use Prim.Native.Nat.{ℕ, suc, ◌+◌, ◌≤◌, ◌<◌}
use native.Mathlib.Numerals.{add-one}
use native.Mathlib.Omega.{arith}
use lib.ListN.{length, get_or, drop, drop_of_length-le}
use lib.Seq.{drop-cons}
use borrow.Author.Tests.{eq-eqb, ne_eqb}
use Rattle.image_fields.specs.Image.{same_words}

pub record Invariant (a b : List ℕ) (k : ℕ) : Type 0 where
  pub low : k ≤ length a
  pub rest : same_words (drop k a) (drop k b) ≡ same_words a b

pub initially : (a b : List ℕ) → Invariant a b 0
initially a b = record { low = omega arith; rest = refl }

module _ {a b : List ℕ} {k : ℕ} (i : Invariant a b k) (count : length a ≡ length b) where
  opened : k < length a → same_words (get_or a k 0 ∷ drop (suc k) a) (get_or b k 0 ∷ drop (suc k) b) ≡ same_words a b
  opened more = rw (drop-cons a k 0 more, drop-cons b k 0 (omega (arith, count, more))) at i.rest

  pub differ : k < length a → (get_or a k 0 ≡ get_or b k 0 → ⊥) → false ≡ same_words a b
  differ more h = simp (ne_eqb (get_or a k 0) (get_or b k 0) h) at (opened more)

  pub again : k < length a → get_or a k 0 ≡ get_or b k 0 → Invariant a b (k + 1)
  again more e =
      record { low = omega (arith, more); rest = rw (add-one k) (simp (eq-eqb (get_or a k 0) (get_or b k 0) e) at (opened more)) }

  pub over : length a ≤ k → true ≡ same_words a b
  over h =
      rw (drop_of_length-le a {i = k} h, drop_of_length-le b {i = k} (omega (arith, count, h))) at i.rest
