-- `put_fifo_words` meets its contract: the words that are left, put at the present place, give what all of them give.
-- Assumes nothing.
use Prim.Native.Nat.{◌-◌, ◌≤◌}
use lib.ListN.{length}
use Rattle.output.proofs.Pieces.{PartlyPut}
use Rattle.state_listing.specs.State.{texts_from, fifo_word_text, all_fifo_words_text}
use Rattle.state_listing.proofs.put_fifo_words.Given as goal

abbrev pub invariant-loop-i : goal.invariant-loop-i
invariant-loop-i l =
    (l.i ≤ length l.store)
    × PartlyPut l.initial.out l.at (all_fifo_words_text l.store) l.out l.place (texts_from (length l.store - l.i) l.i (fifo_word_text l.store))
