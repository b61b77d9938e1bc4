-- What each way through `kernelstill_record_line` leaves, against its definition.
-- Assumes nothing.
use mathlib.Core.Bool.{true, false}
use mathlib.Core.List.{List}
use mathlib.Core.Logic.{⊎_elim}
use mathlib.Core.Path.{◌≡◌, ap, ◌∙◌}
use Prim.Native.Nat.{ℕ, ◌+◌, ◌<◌, ◌≤◌}
use native.Mathlib.Omega.{arith}
use lib.Dec.{leb}
use lib.ListN.{length}
use lib.Seq.{sets}
use borrow.Author.Tests.{leb-true, leb-false}
use Rattle.bits.proofs.Truth.{cases}
use Rattle.output.specs.Block.{Block, block, put_if_fits}
use Rattle.output.proofs.Pieces.{put_when_fits, put_when_full}
use Rattle.layout.specs.ListingLines.{record_line}
use Rattle.layout.proofs.LineLengths.{record_line_length}
use Rattle.host_lines.specs.Lines.{line_result, record_result_of}

module _ (head value : ℕ) (line after : List ℕ) (next : ℕ) (e : block after next ≡ put_if_fits line 0 (record_line head value)) where
  abbrev text : List ℕ
  text = record_line head value

  -- with room and without
  fit : leb (length text) (length line) ≡ true → block after next ≡ block (sets line 0 text) (0 + length text)
  fit f =
      let room : 0 + length text ≤ length line = omega (arith, leb-true (length text) (length line) f) in
      e ∙ put_when_fits line 0 text room

  over : leb (length text) (length line) ≡ false → block after next ≡ block line 0
  over f =
      let short : length line < 0 + length text = omega (arith, leb-false (length text) (length line) f) in
      e ∙ put_when_full line 0 text short

  pub line_left_out : next ≡ 0 → line_result 4 after ≡ record_result_of head value line
  unfolding record_result_of
  line_left_out z =
      ⊎_elim
      (λ (f : leb (length text) (length line) ≡ true).
      let moved = ap (λ (b : Block). b.next) (fit f) in
      absurd (omega (arith, z, moved, record_line_length head value)))
      (λ (f : leb (length text) (length line) ≡ false). simp f (ap (λ (b : Block). line_result 4 b.bytes) (over f)))
      (cases (leb (length text) (length line)))

  pub line_put : (next ≡ 0 → ⊥) → line_result 0 after ≡ record_result_of head value line
  unfolding record_result_of
  line_put some =
      ⊎_elim
      (λ (f : leb (length text) (length line) ≡ true). simp f (ap (λ (b : Block). line_result 0 b.bytes) (fit f)))
      (λ (f : leb (length text) (length line) ≡ false). absurd (some (ap (λ (b : Block). b.next) (over f))))
      (cases (leb (length text) (length line)))
