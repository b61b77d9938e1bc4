-- `Writer::put_zero_bytes` writes a byte of zeros at each turn.
-- Assumes nothing.
use mathlib.Core.Path.{◌≡◌, ap}
use Prim.Native.Nat.{ℕ, ◌*◌}
use native.Mathlib.Omega.{arith}
use lib.ListN.{length-replicate}
use Rattle.orders.specs.Streams.{zeros}
use Rattle.stream_writer.proofs.Writing.{nothing_yet, in_other_words, both_parts}
use Rattle.stream_writer.proofs.Rests.{zeros_byte}
use Rattle.stream_writer.proofs.Writer.put_zero_bytes.Goals as goal

pub loop-init : goal.loop-init
loop-init c = nothing_yet c.requires.0

pub put_byte-writer-requires : goal.put_byte-writer-requires
put_byte-writer-requires c =
    let so_far = c.loop.invariant in
    let room = length-replicate {A = ℕ} (8 * c.loop.counter) 0 in
    (so_far.fits, omega (arith, room))

pub loop-preserved : goal.loop-preserved
loop-preserved c = in_other_words (zeros_byte c.loop.counter) (both_parts _ _ c.loop.invariant c.put_byte-writer.ensures)

pub returns : goal.returns
returns c =
    let all : c.loop.counter ≡ c.args.count = omega arith in
    in_other_words (ap (λ n. zeros (8 * n)) all) c.loop.invariant
