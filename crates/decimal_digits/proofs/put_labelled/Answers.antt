-- `put_labelled` meets its contract: the label, the digits that `io::decimal` makes, and the text after them.
-- Assumes nothing.
use mathlib.Core.List.{List, [], ◌++◌, append-nil}
use mathlib.Core.Path.{◌≡◌, refl, sym, ◌∙◌}
use Prim.Native.Nat.{ℕ, ◌+◌, ◌≤◌}
use native.Mathlib.Omega.{arith}
use lib.ListN.{length}
use Rattle.output.specs.Block.{block, put_all}
use Rattle.output.proofs.Pieces.{PartlyPut, none_put, next_fits, next_put, all_put}
use Rattle.decimal_digits.specs.Decimal.{decimal_of, labelled}
use Rattle.decimal_digits.proofs.Decimal.{decimal_digits_lem}
use Rattle.decimal_digits.proofs.put_labelled.Goals as goal

-- What is left to put of the text; `digits` are those that were made.
module _ (out label after digits : List ℕ) (at n : ℕ) (room : at + length (labelled label n after) ≤ length out) (made : digits ≡ decimal_of n) where
  whole : PartlyPut out at (labelled label n after) out at (label ++ (decimal_of n ++ after))
  unfolding labelled
  whole = none_put out at (label ++ (decimal_of n ++ after)) room

  label_fits : at + length label ≤ length out
  label_fits = next_fits whole label (decimal_of n ++ after) refl

  module _ (out1 : List ℕ) (place : ℕ) (label_put : block out1 place ≡ put_all out at label) where
    digits_left : PartlyPut out at (labelled label n after) out1 place (digits ++ after)
    digits_left = rw made (next_put whole label (decimal_of n ++ after) refl out1 place label_put)

    digits_fit : place + length digits ≤ length out1
    digits_fit = next_fits digits_left digits after refl

    module _ (out2 : List ℕ) (end : ℕ) (digits_put : block out2 end ≡ put_all out1 place digits) where
      after_left : PartlyPut out at (labelled label n after) out2 end after
      after_left = next_put digits_left digits after refl out2 end digits_put

      after_fits : end + length after ≤ length out2
      after_fits = next_fits after_left after [] (sym (append-nil after))

      text_put : (out3 : List ℕ) (next : ℕ) → block out3 next ≡ put_all out2 end after → block out3 next ≡ put_all out at (labelled label n after)
      text_put out3 next e = all_put (next_put after_left after [] (sym (append-nil after)) out3 next e) refl

pub put_bytes-place-requires : goal.put_bytes-place-requires
put_bytes-place-requires c =
    let a = c.args in
    let d = c.decimal-n.ensures in
    let made = d.digits ∙ decimal_digits_lem _ _ (omega arith) d.len in
    label_fits a.out.now a.label.now a.after.now _ a.at a.number c.requires made

pub put_bytes-end-requires : goal.put_bytes-end-requires
put_bytes-end-requires c =
    let a = c.args in
    let d = c.decimal-n.ensures in
    let made = d.digits ∙ decimal_digits_lem _ _ (omega arith) d.len in
    digits_fit a.out.now a.label.now a.after.now _ a.at a.number c.requires made _ _ c.put_bytes-place.ensures

pub put_bytes-requires : goal.put_bytes-requires
put_bytes-requires c =
    let a = c.args in
    let d = c.decimal-n.ensures in
    let made = d.digits ∙ decimal_digits_lem _ _ (omega arith) d.len in
    after_fits a.out.now a.label.now a.after.now _ a.at a.number c.requires made _ _ c.put_bytes-place.ensures _ _ c.put_bytes-end.ensures

pub returns : goal.returns
returns c =
    let a = c.args in
    let d = c.decimal-n.ensures in
    let made = d.digits ∙ decimal_digits_lem _ _ (omega arith) d.len in
    text_put a.out.now a.label.now a.after.now _ a.at a.number c.requires made _ _ c.put_bytes-place.ensures _ _ c.put_bytes-end.ensures _ _ c.put_bytes.ensures
