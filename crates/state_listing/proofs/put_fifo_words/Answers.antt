-- `put_fifo_words` meets its contract: the words that are left, put at the present place, give what all of them give.
-- Assumes nothing.
use Prim.Native.Nat.{◌-◌}
use native.Mathlib.Omega.{arith}
use lib.ListN.{length}
use borrow.Author.Tests.{eq-eqb, ne_eqb}
use Rattle.output.proofs.Pieces.{all_put}
use Rattle.state_listing.specs.State.{fifo_word_text}
use Rattle.state_listing.proofs.State.{texts_none_put, text_put, text_empty, texts_all_put}
use Rattle.state_listing.proofs.put_fifo_words.Goals as goal

pub loop-i-init : goal.loop-i-init
loop-i-init c = (omega arith, texts_none_put _ _ _ _ c.requires)

pub loop-i-preserved-then-word-eq0 : goal.loop-i-preserved-then-word-eq0
loop-i-preserved-then-word-eq0 c =
    let l = c.loop-i in
    let words = c.args.store.now in
    (omega arith, text_empty (fifo_word_text words) (length words) l.i (omega arith) l.invariant.1 (simp (eq-eqb _ _ c.if-word-eq0.true)))

pub loop-i-preserved : goal.loop-i-preserved
loop-i-preserved c =
    let l = c.loop-i in
    let words = c.args.store.now in (
      omega (arith, c.loop-i-test.true),
      text_put (fifo_word_text words) (length words) l.i (omega arith) l.invariant.1 _ (simp (ne_eqb _ _ c.if-word-eq0.false)) _ _ c.word_line-place.ensures,
    )

pub returns : goal.returns
returns c =
    let words = c.args.store.now in
    let h = c.loop-i-test.false in
    all_put c.loop-i.invariant.1 (texts_all_put (fifo_word_text words) (length words) c.loop-i.i (omega arith))
