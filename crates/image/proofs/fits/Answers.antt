-- `fits` writes the state that the words read as, and compares.
-- Assumes nothing.
use mathlib.Core.List.{List}
use mathlib.Core.Path.{ap, ◌∙◌}
use Prim.Native.Nat.{ℕ}
use lib.ListN.{length}
use borrow.Author.Tests.{eq-eqb, ne_eqb}
use Rattle.image_fields.specs.Image.{image_length, image_of, same_words, image_fits}
use Rattle.image.proofs.fits.Goals as goal

pub returns-then-image-ne-WORDS : goal.returns-then-image-ne-WORDS
unfolding image_fits
returns-then-image-ne-WORDS c = let image = c.args.image.now in simp (ne_eqb (length image) image_length c.if-image-ne-WORDS.true)

pub returns : goal.returns
unfolding image_fits
returns c =
    let image = c.args.image.now in
    simp (eq-eqb (length image) image_length c.if-image-ne-WORDS.false)
    (c.same.ensures ∙ ap (λ (l : List ℕ). same_words l image) (c.write.ensures.image_after ∙ ap image_of c.read.ensures))
