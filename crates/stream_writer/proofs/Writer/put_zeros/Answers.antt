-- `Writer::put_zeros` writes bytes of zeros, and then single ones.
-- Assumes nothing.
use mathlib.Core.List.{◌++◌}
use mathlib.Core.Path.{◌≡◌, ◌∙◌, sym, ap}
use Prim.Native.Nat.{ℕ, ◌+◌, ◌*◌, ◌/◌, ◌%◌}
use native.Mathlib.Omega.{arith}
use lib.ListN.{length-replicate}
use Rattle.orders.specs.Streams.{zeros}
use Rattle.stream_writer.proofs.Writing.{in_other_words, both_parts}
use Rattle.stream_writer.proofs.Rests.{zeros_split}
use Rattle.stream_writer.proofs.Writer.put_zeros.Goals as goal

-- Whole bytes, and the rest.
all_zeros : (count : ℕ) → zeros (8 * (count / 8)) ++ zeros (count % 8) ≡ zeros count
all_zeros count =
    let e : 8 * (count / 8) + count % 8 ≡ count = omega arith in
    sym (zeros_split (8 * (count / 8)) (count % 8)) ∙ ap zeros e

pub put_zero_bits-requires : goal.put_zero_bits-requires
put_zero_bits-requires c =
    let w = c.put_zero_bytes-whole.ensures in
    let s = c in
    (w.fits, omega (arith, w.place, w.long, s.requires.1, length-replicate {A = ℕ} (8 * (s.args.count / 8)) 0))

pub returns : goal.returns
returns c =
    let bits = c in
    let bytes = bits in
    in_other_words (all_zeros bytes.args.count) (both_parts _ _ bytes.put_zero_bytes-whole.ensures bits.put_zero_bits.ensures)
