-- `word_count` goes a word on at each turn.
-- Assumes nothing.
use mathlib.Core.Bool.{false}
use mathlib.Core.Path.{◌≡◌}
use Prim.Native.Nat.{◌+◌, ◌≤◌}
use lib.ListN.{length, get_or}
use Rattle.text_words.specs.Words.{is_blank, words_in}
use Rattle.text_words.proofs.word_count.Given as goal

abbrev pub invariant-loop-rest : goal.invariant-loop-rest
invariant-loop-rest l =
    (is_blank (get_or l.rest 0 0) ≡ false)
    × (l.count + length l.rest ≤ length l.text)
    × (l.count + length (words_in l.rest) ≡ length (words_in l.text))

abbrev pub decreases-loop-rest : goal.decreases-loop-rest
decreases-loop-rest l = length l.rest
