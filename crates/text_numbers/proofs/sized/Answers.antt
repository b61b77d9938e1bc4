-- `sized` meets its contract: below two to its width.
-- Assumes nothing.
use mathlib.Core.Path.{◌≡◌, ◌∙◌, ap}
use Prim.Native.Nat.{ℕ, ◌*◌, ◌%◌, ◌^◌}
use lib.Dec.{ltb}
use borrow.Author.Tests.{tests}
use Rattle.std.proofs.Common.{rules}
use Rattle.text_numbers.specs.Numbers.{sized}
use Rattle.text_numbers.proofs.Numbers.{two_to_width, passing_told}
use Rattle.text_numbers.proofs.sized.Goals as goal

pub returns : goal.returns
unfolding sized
returns c =
    let width = c.args.width in
    passing_told (λ n. ltb n (2 ^ width)) _ _ _
    (λ n b g. let by_code : b ≡ ltb n (1 * 2 ^ width % 2 ^ 64) = search (rules, tests) in by_code ∙ ap (λ (m : ℕ). ltb n m) (two_to_width width c.requires))
    c.filter.ensures
