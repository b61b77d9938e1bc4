-- A loop that stores the low parts of words from a place on, one after the other, into an array that they fill.
-- Assumes nothing.
use mathlib.Core.List.{List}
use mathlib.Core.Path.{◌≡◌, refl, sym, ◌∙◌}
use Prim.Native.Nat.{ℕ, ◌+◌, ◌≤◌, ◌<◌}
use lib.ListN.{get_or, set, replicate, length-replicate}
use Rattle.image_fields.specs.Fields.{Limit}
use Rattle.image_fields.specs.Image.{low, low_words}
use Rattle.image_fields.proofs.LowWords.{length_even, even_at}
use Rattle.image_words.proofs.WriteLoop as writes

pub record Invariant (l : Limit) (size at : ℕ) (image out : List ℕ) (n : ℕ) : Type 0 where
  pub stores : writes.Invariant (replicate size 0) 0 (low_words (replicate size l) at image) out n

pub initially : (l : Limit) (size at : ℕ) (image : List ℕ) → Invariant l size at image (replicate size 0) 0
initially l size at image = record { stores = writes.initially _ _ _ }

module _ {l : Limit} {size at : ℕ} {image out : List ℕ} {n : ℕ} (i : Invariant l size at image out n) where
  pub again : n < size → Invariant l size at image (set out n (low l (get_or image (at + n) 0))) (n + 1)
  again more =
      record { stores = writes.again_first i.stores (length_even l size at image) refl more _ (even_at l size at image n more) }

  pub over : size ≤ n → out ≡ low_words (replicate size l) at image
  over h =
      let numbers = low_words (replicate size l) at image in
      let long = length_even l size at image in
      writes.over i.stores long h ∙ writes.covered (replicate size 0) numbers (length-replicate size 0 ∙ sym long)
