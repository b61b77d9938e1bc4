-- `word` goes a word on at each turn.
-- Assumes nothing.
use mathlib.Core.Bool.{false}
use mathlib.Core.List.{[]}
use mathlib.Core.Path.{◌≡◌}
use Prim.Native.Nat.{ℕ, ◌+◌}
use lib.ListN.{get_or}
use Rattle.text_words.specs.Words.{is_blank, words_in}
use Rattle.text_words.proofs.word.Given as goal

abbrev pub invariant-loop : goal.invariant-loop
invariant-loop l =
    (is_blank (get_or l.rest 0 0) ≡ false)
    × ((m : ℕ) → get_or (words_in l.rest) m [] ≡ get_or (words_in l.text) (l.counter + m) [])
