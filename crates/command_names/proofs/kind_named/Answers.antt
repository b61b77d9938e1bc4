-- `kind_named` meets its contract: the kind of the entry that has the name.
-- Assumes nothing.
use mathlib.Core.Path.{◌≡◌, ◌∙◌, refl, ap}
use mathlib.Core.List.{map}
use lib.Dec.{eqb}
use lib.Pointwise.{pointwise}
use Rattle.text_words.proofs.Words.{equal_words}
use borrow.Author.Tests.{tests}
use Rattle.std.proofs.Common.{rules}
use Rattle.std.proofs.lemmas.Iterator.{YieldsList-from_slice}
use Rattle.std.proofs.lemmas.Iterator.Search.{find_from_yields_List}
use Rattle.command_names.proofs.Names.{as_named, kinds_known, has_name, kind_told}
use Rattle.command_names.proofs.kind_named.Goals as goal

pub returns : goal.returns
returns c =
    kind_told c.args.name.now c.iter.result.rest.now (ap (map as_named) c.iter.ensures.rest) (ap kinds_known c.iter.ensures.rest)
    c.find.result c.map.result _
    (find_from_yields_List (has_name c.args.name.now) _ _ c.find.result c.find.ensures.ran (YieldsList-from_slice c.iter.result.rest.now refl)
    (λ x b q k. (search (rules, tests), let e : b ≡ pointwise eqb c.args.name.now x.now.0.now = search (rules, tests) in e ∙ equal_words _ _)))
    (λ e k g. search rules)
    c.map.ensures.cases
