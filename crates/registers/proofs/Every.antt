-- A test of all of a list is one of each of its places.
-- Assumes nothing.
use Rattle.std.proofs.Common.{◌≡◌, ℕ, suc, zero, ◌+◌, Bool, List, [], ◌∷◌, ◌&&◌, length, get_or, arith}
use Rattle.std.specs.List.{list_all, range_with_len}
use mathlib.Core.Path.{refl, ap, ◌∙◌}
use Rattle.registers.specs.Sound.{every_from}

pub all_every : (test : ℕ → Bool) (xs : List ℕ) (i : ℕ) (f : ℕ → Bool) → ((k : ℕ) → test (get_or xs k 0) ≡ f (i + k))
    → list_all test xs ≡ every_from (length xs) i f
unfolding every_from
all_every test [] i f h = refl
all_every test (x ∷ xs) i f h =
    let here : i + 0 ≡ i = omega arith in
    let first : test x ≡ f i = h 0 ∙ ap f here in
    λ j. first j && all_every test xs (i + 1) f (λ k. let there : i + suc k ≡ i + 1 + k = omega arith in h (suc k) ∙ ap f there) j

-- The same of the numbers of a range.
pub range_every : (test : ℕ → Bool) (n i : ℕ) → list_all test (range_with_len i n) ≡ every_from n i test
unfolding every_from
range_every test zero i = refl
range_every test (suc n) i = λ j. test i && range_every test n (i + 1) j
