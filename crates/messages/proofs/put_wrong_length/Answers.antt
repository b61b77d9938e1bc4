-- `put_wrong_length` meets its contract: in both branches the sentence is the one that is put there.
-- Assumes nothing.
use mathlib.Core.List.{List}
use mathlib.Core.Path.{◌≡◌}
use Prim.Native.Nat.{ℕ, ◌+◌, ◌≤◌, ◌<◌}
use lib.ListN.{length}
use borrow.Author.Tests.{lt-ltb, le-ltb}
use Rattle.line_meanings.specs.declared.LineNotes.{LineNotes}
use Rattle.output.specs.Ascii.{ascii}
use Rattle.decimal_digits.specs.Decimal.{labelled}
use Rattle.messages.specs.Sentences.{wrong_length}
use Rattle.messages.proofs.put_wrong_length.Goals as goal

-- the sentence, by the test
module _ (n : LineNotes) where
  above : 64 < n.length → wrong_length n ≡ labelled (ascii "the count of digits is ") n.length (ascii ", above 64\n")
  unfolding wrong_length
  above h = simp (lt-ltb 64 n.length h)

  odd : n.length ≤ 64 → wrong_length n ≡ labelled (ascii "the count of digits is ") n.length (ascii ", which is odd\n")
  unfolding wrong_length
  odd h = simp (le-ltb 64 n.length h)

-- there is room for it
room : (out : List ℕ) (at : ℕ) {sentence : List ℕ} (text : List ℕ) → at + length sentence ≤ length out → sentence ≡ text → at + length text ≤ length out
room out at text h e = rw e at h

pub put_labelled-requires : goal.put_labelled-requires
put_labelled-requires c = room _ _ _ c.requires (above c.args.notes c.if-notes-gt64.true)

pub returns-then-notes-gt64 : goal.returns-then-notes-gt64
returns-then-notes-gt64 c = rw (above c.args.notes c.if-notes-gt64.true) c.put_labelled.ensures

pub put_labelled-requires-2 : goal.put_labelled-requires-2
put_labelled-requires-2 c = room _ _ _ c.requires (odd c.args.notes c.if-notes-gt64.false)

pub returns : goal.returns
returns c = rw (odd c.args.notes c.if-notes-gt64.false) c.put_labelled-2.ensures
