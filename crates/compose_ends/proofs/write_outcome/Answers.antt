-- `compose_ends::write_outcome`: the line of a refusal has room in the block.
-- Assumes nothing.
use Rattle.std.proofs.Common.{[], ◌∷◌, refl, sym, arith}
use lib.Seq.{length-take-le}
use Rattle.output.specs.Ascii.{ascii}
use Rattle.output.proofs.Pieces.{put_end_within}
use Rattle.layout.specs.ListingLines.{refused_line}
use Rattle.number_lines.proofs.LineLengths.{line_length}
use Rattle.order_refusals.specs.Refusals.{refused}
use Rattle.compose_ends.proofs.write_outcome.Goals as goal

pub slice_bounds-write_whole-end : goal.slice_bounds-write_whole-end
slice_bounds-write_whole-end c =
    let r = refused c.in-Err.refusal in
    let few = line_length (ascii "!") (r.number ∷ r.line ∷ []) (2 ∷ 8 ∷ []) refl in
    put_end_within c.args.text.now (refused_line r.number r.line) _ 0 _ c.put_line-n.ensures (omega (arith, few, c.requires.1))

pub slice_bounds-write_whole-end-in-Err : goal.slice_bounds-write_whole-end-in-Err
slice_bounds-write_whole-end-in-Err c = sym (length-take-le _ _ (slice_bounds-write_whole-end c))
