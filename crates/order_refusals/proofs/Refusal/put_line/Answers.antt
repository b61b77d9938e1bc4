-- `Refusal::put_line` puts the line of a refusal.
-- Assumes nothing.
use mathlib.Core.List.{[], ◌∷◌}
use mathlib.Core.Path.{refl, ◌∙◌}
use native.Mathlib.Omega.{arith}
use Rattle.output.specs.Ascii.{ascii}
use Rattle.output.proofs.Pieces.{put_when_fits}
use Rattle.layout.specs.ListingLines.{refused_line}
use Rattle.number_lines.proofs.LineLengths.{line_length}
use Rattle.order_refusals.proofs.Refusal.put_line.Goals as goal

pub returns : goal.returns
returns c =
    let number = c.number.result in
    let line = c.line.result in
    let few = line_length (ascii "!") (number ∷ line ∷ []) (2 ∷ 8 ∷ []) refl in
    rw (← c.number.ensures, ← c.line.ensures)
    (c.refused_line.ensures ∙ put_when_fits c.args.out.now 0 (refused_line number line) (omega (arith, few, c.requires)))
