-- `write` writes the image part by part; read back, it is the state, whose numbers fit by their types.
-- Assumes nothing.
use borrow.Author.Rules.{rules}
use mathlib.Core.List.{List}
use mathlib.Core.Path.{ap, ◌∙◌}
use Prim.Native.Nat.{ℕ}
use native.Mathlib.Omega.{arith}
use lib.ListN.{set}
use lib.Seq.{sets}
use mir.Syntax.{w8, w16}
use Rattle.image_fields.specs.Fields.{fields}
use Rattle.image_fields.specs.Image.{word_place, scalars_of, state_of, NumbersKeep, ArraysKeep, Widths}
use Rattle.image_fields.proofs.RoundTrip.{read_back}
use Rattle.image_writer.proofs.Stored.{written}
use Rattle.image_fields.proofs.Widths.{array_keeps}
use Rattle.image_writer.proofs.write.Goals as goal
use Rattle.image_writer.proofs.write.Goals.{Start}

-- The widths, by the types: of all numbers at once, and of each array from what is known of the model.
numbers_keep : (s : Start) → NumbersKeep fields s.args.d
numbers_keep s = omega arith

arrays_keep : (s : Start) → ArraysKeep fields s.args.d
arrays_keep s =
    let known = s.well_formed.0.1.1.1.1.1.0 in (
      array_keeps w16 _ (search rules) (λ (n : ℕ). search rules),
      (array_keeps w8 _ (search rules) (λ (n : ℕ). search rules), (array_keeps w8 _ (search rules) (λ (n : ℕ). search rules), tt)),
    )

widths : (s : Start) → Widths s.args.d
widths s = record { numbers = numbers_keep s; arrays = arrays_keep s }

pub returns : goal.returns
returns c =
    let d = c.args.d in
    let w = widths (goal.at.returns c).Start in
    let numbers = c.scalars.ensures ∙ ap (set (scalars_of d) (word_place "phase")) c.phase_number.ensures in
    let one = c.put_scalars.ensures ∙ ap (sets c.args.image.now 0) numbers in
    let two = c.put_u16.ensures ∙ ap (λ (l : List ℕ). sets l (word_place "registers") d.model.registers) one in
    let three = c.put_u8.ensures ∙ ap (λ (l : List ℕ). sets l (word_place "writes") d.model.pointers.writes) two in
    let four = c.put_u8-2.ensures ∙ ap (λ (l : List ℕ). sets l (word_place "reads") d.model.pointers.reads) three in
    let e = four ∙ written d w c.args.image.now c.requires in
    record { image_after = e; image_after_2 = ap state_of e ∙ read_back d w }
