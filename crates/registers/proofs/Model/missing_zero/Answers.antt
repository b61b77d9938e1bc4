-- `missing_zero` answers whether each of the 16 registers is there or holds 0.
-- Assumes nothing.
use Rattle.std.proofs.Common.{rules, tests}
use Rattle.std.proofs.lemmas.Iterator.{YieldsList-from_range}
use Rattle.std.proofs.lemmas.Iterator.Search.{all_from_yields_List}
use mathlib.Core.Path.{◌∙◌, refl}
use Rattle.registers.specs.Sound.{zero_at, missing_zero}
use Rattle.registers.proofs.Every.{range_every}
use Rattle.registers.proofs.Model.missing_zero.Goals as goal

pub returns : goal.returns
unfolding missing_zero
returns c =
    let test = zero_at c.args.plan c.args.self.registers in
    all_from_yields_List test _ _ c.all.result c.all.ensures.ran (YieldsList-from_range 0 16 16 refl refl) (λ x b q k. search (rules, tests)) ∙ range_every test 16 0
