-- `from_first_word` meets its contract: what is left out are blanks.
-- Assumes nothing.
use mathlib.Core.Path.{◌∙◌, ap}
use borrow.Author.Tests.{tests}
use Rattle.std.proofs.Common.{rules}
use Rattle.std.proofs.lemmas.Iterator.{YieldsList-from_slice}
use Rattle.std.proofs.lemmas.Iterator.Search.{position_from_yields_List}
use Rattle.text_words.specs.Words.{words_in}
use Rattle.text_words.proofs.Words.{not_blank, part_rest, from_place, from_no_place, same_words}
use Rattle.text_words.proofs.from_first_word.Goals as goal

pub returns-in-Some-clause-answer : goal.returns-in-Some-clause-answer
returns-in-Some-clause-answer c =
    let text = c.args.text.now in
    part_rest text c.in-Some.at
    ∙ from_place text c.position.result
    (position_from_yields_List not_blank _ _ c.position.result c.position.ensures.ran (YieldsList-from_slice text cc) (λ x b q k. search (rules, tests)))
    c.in-Some.at c.in-Some.is

pub returns-in-Some-clause-words : goal.returns-in-Some-clause-words
returns-in-Some-clause-words c = ap words_in (returns-in-Some-clause-answer c) ∙ same_words c.args.text.now

pub returns-in-None-clause-answer : goal.returns-in-None-clause-answer
returns-in-None-clause-answer c =
    let text = c.args.text.now in
    from_no_place text c.position.result
    (position_from_yields_List not_blank _ _ c.position.result c.position.ensures.ran (YieldsList-from_slice text cc) (λ x b q k. search (rules, tests)))
    c.in-None.is

pub returns-in-None-clause-words : goal.returns-in-None-clause-words
returns-in-None-clause-words c = ap words_in (returns-in-None-clause-answer c) ∙ same_words c.args.text.now
