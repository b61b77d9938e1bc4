-- `Writer::put_zero_bits` writes one at each turn.
-- Assumes nothing.
use mathlib.Core.Path.{◌≡◌, ap}
use Prim.Native.Nat.{ℕ}
use native.Mathlib.Omega.{arith}
use lib.ListN.{length-replicate}
use Rattle.orders.specs.Streams.{zeros}
use Rattle.stream_writer.proofs.Writing.{nothing_yet, in_other_words, both_parts}
use Rattle.stream_writer.proofs.Rests.{zeros_bit}
use Rattle.stream_writer.proofs.Writer.put_zero_bits.Goals as goal

pub loop-init : goal.loop-init
loop-init c = nothing_yet c.requires.0

pub put_bit-writer-requires : goal.put_bit-writer-requires
put_bit-writer-requires c =
    let so_far = c.loop.invariant in
    let room = length-replicate {A = ℕ} (c.loop.counter) 0 in
    (so_far.fits, omega arith, omega (arith, room))

pub loop-preserved : goal.loop-preserved
loop-preserved c = in_other_words (zeros_bit c.loop.counter) (both_parts _ _ c.loop.invariant c.put_bit-writer.ensures)

pub returns : goal.returns
returns c =
    let all : c.loop.counter ≡ c.args.count = omega arith in
    in_other_words (ap (zeros) all) c.loop.invariant
