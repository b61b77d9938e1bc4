-- `word` meets its contract: at each turn one word fewer is ahead.
-- Assumes nothing.
use mathlib.Core.List.{List, []}
use mathlib.Core.Path.{◌≡◌, ◌∙◌, sym, ap}
use Prim.Native.Nat.{ℕ, suc, ◌+◌, ◌-◌}
use native.Mathlib.Omega.{arith}
use lib.ListN.{length, get_or}
use Rattle.std.proofs.lemmas.Bool.{eqb-true}
use Rattle.std.proofs.lemmas.List.{nil_from_length}
use Rattle.text_words.specs.Words.{words_from, words_in}
use Rattle.text_words.proofs.Words.{word_here, words_behind}
use Rattle.text_words.proofs.word.Goals as goal

pub loop-preserved : goal.loop-preserved
loop-preserved c =
    let rest = c.loop.rest.now in
    let next = c.from_first_word-rest-in-loop in (
      next.ensures.first,
      λ m.
          let place : c.loop.counter + suc m ≡ c.loop.counter + 1 + m = omega arith in
          words_behind rest c.loop.invariant.0 c.word_length.result c.word_length.ensures.place next.result.now next.ensures.words m
          ∙ c.loop.invariant.1 (suc m) ∙ ap (λ (n : ℕ). get_or (words_in c.args.text.now) n []) place,
    )

pub returns-then-is_empty : goal.returns-then-is_empty
unfolding words_from
returns-then-is_empty c =
    let rest = c.loop.rest.now in
    let left = c.args.n - c.loop.counter in
    let empty = nil_from_length rest (eqb-true (length rest) 0 (sym c.is_empty.ensures ∙ c.if-is_empty.true)) in
    let all : c.loop.counter + left ≡ c.args.n = omega arith in
    empty ∙ ap (λ (l : List ℕ). get_or (words_in l) left []) (sym empty) ∙ c.loop.invariant.1 left
    ∙ ap (λ (n : ℕ). get_or (words_in c.args.text.now) n []) all

pub returns : goal.returns
returns c =
    let all : c.loop.counter + 0 ≡ c.args.n = omega arith in
    word_here c.loop.rest.now c.loop.invariant.0 c.word_length-2.result c.word_length-2.ensures.place
    ∙ c.loop.invariant.1 0 ∙ ap (λ (n : ℕ). get_or (words_in c.args.text.now) n []) all
