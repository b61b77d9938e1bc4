-- `pointers_fit` answers whether each of the 16 pointers fits.
-- Assumes nothing.
use Rattle.std.proofs.Common.{rules, tests, arith, ◌≡◌, ◌+◌, ℕ, ltb, length}
use Rattle.std.proofs.lemmas.Iterator.{YieldsList-from_slice}
use Rattle.std.proofs.lemmas.Iterator.Search.{all_from_yields_List}
use mathlib.Core.Path.{◌∙◌, ap}
use Rattle.registers.specs.Sound.{fits_at, pointers_fit}
use Rattle.registers.proofs.Every.{all_every}
use Rattle.registers.proofs.pointers_fit.Goals as goal

pub returns : goal.returns
unfolding pointers_fit
returns c =
    let xs = c.args.pointers in
    let wide : length xs ≡ 16 = search rules in
    let all = all_from_yields_List (λ x. ltb x 128) _ _ c.all.result c.all.ensures.ran (YieldsList-from_slice xs cc) (λ x b q k. search (rules, tests)) in
    let place : (k : ℕ) → k ≡ 0 + k = λ k. omega arith in
    rw wide at (all ∙ all_every (λ x. ltb x 128) xs 0 (fits_at xs) (λ k. ap (fits_at xs) (place k)))
