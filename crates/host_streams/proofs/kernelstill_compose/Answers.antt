-- `kernelstill_compose` is the composing call with the plan of four numbers, its answer in one word.
-- Assumes nothing.
use mathlib.Core.Path.{◌∙◌, ap}
use Rattle.plans.specs.declared.Plan.{Plan}
use Rattle.orders.specs.Fields.{orders_in}
use Rattle.orders.specs.Composing.{compose_of}
use Rattle.host_streams.specs.Compose.{compose_words, words_of, compose_words_of}
use Rattle.host_streams.proofs.kernelstill_compose.Goals as goal

pub returns : goal.returns
unfolding compose_words_of
returns c =
    let a = c.args in
    (λ i. compose_words (c.compose_word.ensures i) c.compose.new.out)
    ∙ ap words_of
    (c.compose.ensures ∙ ap (λ (p : Plan). compose_of p (orders_in a.frames.now a.orders.now) a.output.now) c.plan_of-plan.ensures)
