-- `frame_field` meets its contract.
-- Assumes nothing.
use mathlib.Core.Path.{◌≡◌, ◌∙◌, sym, ap}
use mathlib.Core.Bool.{true, false}
use native.Mathlib.Omega.{arith}
use lib.ListN.{length}
use Rattle.orders.specs.Fields.{is_frame_kind}
use Rattle.text_words.proofs.Words.{word_short}
use Rattle.order_fields.proofs.frame_field.Goals as goal

pub returns-then-not-is_frame_kind : goal.returns-then-not-is_frame_kind
returns-then-not-is_frame_kind c =
    let e : is_frame_kind c.args.kind ≡ false = sym c.is_frame_kind.ensures ∙ c.if-not-is_frame_kind.true in
    record { same = simp e; within = omega arith }

pub read_frame-requires : goal.read_frame-requires
read_frame-requires c = (omega (arith, ap length c.word.ensures, word_short c.args.text.now 1, c.requires.0), c.requires.1)

pub returns : goal.returns
returns c =
    let e : is_frame_kind c.args.kind ≡ true = sym c.is_frame_kind.ensures ∙ c.if-not-is_frame_kind.false in
    let f = c.read_frame.ensures in
    record { same = f.same ∙ rw c.word.ensures (simp e); within = f.within }
