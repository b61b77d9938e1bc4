-- Words by their low parts: each is within its limit, and words within their limits are their own low parts.
-- Assumes nothing.
use mathlib.Core.List.{List, [], ◌∷◌}
use mathlib.Core.Path.{◌≡◌, refl, sym, ap, ◌∙◌}
use Prim.Native.Nat.{ℕ, zero, suc, ◌+◌, ◌<◌}
use native.Mathlib.Nat.{mod-lt, mod-eq_of_lt, not-suc-le-zero, le_of_suc-le-suc}
use native.Mathlib.Omega.{arith}
use lib.ListN.{length, get_or, replicate, length-replicate, get_or-replicate}
use lib.Pow.{pow_pos}
use lib.Seq.{ext_get_or}
use Rattle.image_fields.specs.Fields.{Limit, whole, bits, up_to}
use Rattle.image_fields.specs.Image.{low, low_words, Keeps}

pub low_keeps : (l : Limit) (w : ℕ) → Keeps l (low l w)
low_keeps whole w = tt
low_keeps (bits n) w = mod-lt w (pow_pos n)
low_keeps (up_to m) w = le_of_suc-le-suc (mod-lt w (omega arith))

pub low_same : (l : Limit) (w : ℕ) → Keeps l w → low l w ≡ w
low_same whole w k = refl
low_same (bits n) w k = mod-eq_of_lt k
low_same (up_to m) w k = mod-eq_of_lt (omega (arith, k))

pub length_low : (ls : List Limit) (at : ℕ) (image : List ℕ) → length (low_words ls at image) ≡ length ls
length_low [] at image = refl
length_low (l ∷ ls) at image = ap suc (length_low ls (suc at) image)

pub low_at : (ls : List Limit) (at : ℕ) (image : List ℕ) (n : ℕ) → n < length ls
    → get_or (low_words ls at image) n 0 ≡ low (get_or ls n whole) (get_or image (at + n) 0)
low_at [] at image n h = absurd (not-suc-le-zero h)
low_at (l ∷ ls) at image zero h = ap (λ (k : ℕ). low l (get_or image k 0)) (omega arith)
low_at (l ∷ ls) at image (suc n) h =
    low_at ls (suc at) image n (le_of_suc-le-suc h) ∙ ap (λ (k : ℕ). low (get_or ls n whole) (get_or image k 0)) (omega arith)

-- The same of words that have one limit.
pub length_even : (l : Limit) (size at : ℕ) (image : List ℕ) → length (low_words (replicate size l) at image) ≡ size
length_even l size at image = length_low (replicate size l) at image ∙ length-replicate size l

pub even_at : (l : Limit) (size at : ℕ) (image : List ℕ) (n : ℕ) → n < size
    → get_or (low_words (replicate size l) at image) n 0 ≡ low l (get_or image (at + n) 0)
even_at l size at image n h =
    low_at (replicate size l) at image n (omega (arith, h, length-replicate size l))
    ∙ ap (λ (k : Limit). low k (get_or image (at + n) 0)) (get_or-replicate size n l whole h)

-- Words from a place on that are within their limits.
pub low_words_same : (ls : List Limit) (at : ℕ) (image part : List ℕ) → length part ≡ length ls
    → ((n : ℕ) → n < length ls → get_or image (at + n) 0 ≡ get_or part n 0)
    → ((n : ℕ) → n < length ls → Keeps (get_or ls n whole) (get_or part n 0))
    → low_words ls at image ≡ part
low_words_same ls at image part long is keeps =
    ext_get_or 0 (low_words ls at image) part (length_low ls at image ∙ sym long)
    (λ (n : ℕ) (h : n < length (low_words ls at image)).
    let inside : n < length ls = omega (arith, h, length_low ls at image) in
    low_at ls at image n inside
    ∙ ap (low (get_or ls n whole)) (is n inside)
    ∙ low_same (get_or ls n whole) (get_or part n 0) (keeps n inside))
