-- `word_count` meets its contract: at each turn one word fewer is left, and one more counted.
-- Assumes nothing.
use mathlib.Core.List.{List}
use mathlib.Core.Path.{◌≡◌, ◌∙◌, sym, ap}
use Prim.Native.Nat.{ℕ, ◌<◌}
use native.Mathlib.Omega.{arith}
use lib.ListN.{length}
use Rattle.std.proofs.lemmas.Bool.{eqb-false, eqb-true}
use Rattle.std.proofs.lemmas.List.{nil_from_length}
use Rattle.text_words.specs.Words.{words_from, words_in}
use Rattle.text_words.proofs.Words.{count_behind, word_some}
use Rattle.text_words.proofs.word_count.Goals as goal

pub loop-rest-preserved : goal.loop-rest-preserved
loop-rest-preserved c =
    let rest = c.loop-rest.rest.now in
    let word = c.word_length in
    let next = c.from_first_word-rest-in-loop-rest in
    let begins = c.loop-rest.invariant.0 in
    let left : 0 < length rest = omega (arith, eqb-false (length rest) 0 (sym c.is_empty.ensures ∙ c.loop-rest-test.true)) in (
      next.ensures.first,
      omega (arith, next.ensures.short, c.loop-rest.invariant.1, word_some rest begins word.result word.ensures.place left),
      omega (arith, c.loop-rest.invariant.2, count_behind rest begins word.result word.ensures.place next.result.now next.ensures.words left),
    )

pub returns : goal.returns
unfolding words_from
returns c =
    let rest = c.loop-rest.rest.now in
    let empty = nil_from_length rest (eqb-true (length rest) 0 (sym c.is_empty.ensures ∙ c.loop-rest-test.false)) in
    let none : length (words_in rest) ≡ 0 = ap (λ (l : List ℕ). length (words_in l)) empty in
    omega (arith, c.loop-rest.invariant.2, none)
