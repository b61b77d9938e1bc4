-- `Writer::put_eightfold` writes a byte of equal bits at each turn.
-- Assumes nothing.
use mathlib.Core.List.{List, ◌++◌}
use mathlib.Core.Path.{◌≡◌, ◌∙◌, sym, ap}
use Prim.Native.Nat.{ℕ, ◌+◌, ◌*◌, ◌-◌, ◌<◌}
use native.Mathlib.Omega.{arith}
use Rattle.bits.specs.Bits.{bit_of, bits_of}
use lib.ListN.{replicate}
use Rattle.bits.specs.Place.{cursor_at}
use Rattle.bits.proofs.BitRanges.{first_bit}
use Rattle.bits.proofs.Places.{stands}
use Rattle.orders.specs.Streams.{number_bits, repeated}
use Rattle.stream_writer.proofs.Writing.{nothing_yet, left_as, onward}
use Rattle.stream_writer.proofs.Rests.{room_left, eight_equal, repeated_length}
use Rattle.stream_writer.proofs.Writer.put_eightfold.Goals as goal

-- The first bit that is left, eight times, and the rest.
first_eightfold : (bytes : List ℕ) (place left bit : ℕ) → 0 < left → bit ≡ bit_of bytes place
    → repeated 8 (bits_of bytes place left) ≡ number_bits 8 (bit * 255) ++ repeated 8 (bits_of bytes (place + 1) (left - 1))
first_eightfold bytes place left bit h e =
    ap (repeated 8) (first_bit bytes place left h)
    ∙ ap (λ l. l ++ repeated 8 (bits_of bytes (place + 1) (left - 1)))
    (ap (replicate 8) (sym e) ∙ sym (eight_equal bit (omega (arith, e))))

pub loop-init : goal.loop-init
loop-init c =
    let all : c.args.count ≡ c.args.count - 0 = omega arith in
    (stands {place = 0} c.at-at.ensures, left_as (ap (λ n. repeated 8 (bits_of c.args.bytes.now 0 n)) all) (nothing_yet c.requires.0))

pub read-requires : goal.read-requires
read-requires c = let there = c.loop.invariant.0 in (there.inside, omega (arith, there, c.loop-test.true, c.requires.2))

pub overflow_mul-read : goal.overflow_mul-read
overflow_mul-read c = rw c.read.ensures (omega arith)

pub next-at-requires : goal.next-at-requires
next-at-requires c = let there = c.loop.invariant.0 in (there.inside, omega (arith, there, c.loop-test.true, c.requires.1))

pub put_byte-writer-requires : goal.put_byte-writer-requires
put_byte-writer-requires c =
    let l = c.loop in
    let bytes = c.args.bytes.now in
    let count = c.args.count in
    let room = room_left l.invariant.1 (omega (arith, c.requires.3, repeated_length bytes 0 count)) in
    (l.invariant.1.fits, omega (arith, room, c.loop-test.true, repeated_length bytes l.counter (count - l.counter)))

pub loop-preserved : goal.loop-preserved
loop-preserved c =
    let l = c.loop in
    let bytes = c.args.bytes.now in
    let here = l.invariant.0.under in
    let bit = c.read.ensures ∙ ap (bit_of bytes) here in
    let later : c.args.count - l.counter - 1 ≡ c.args.count - (l.counter + 1) = omega arith in (
      stands {place = l.counter + 1} (c.next-at.ensures ∙ ap (λ n. cursor_at (n + 1)) here),
      left_as (ap (λ n. repeated 8 (bits_of bytes (l.counter + 1) n)) later)
          (onward (number_bits 8 (c.read.result * 255)) _
          (left_as (first_eightfold bytes l.counter (c.args.count - l.counter) c.read.result (omega (arith, c.loop-test.true)) bit) l.invariant.1)
          c.put_byte-writer.ensures),
    )

pub returns : goal.returns
returns c =
    let l = c.loop in
    let none : c.args.count - l.counter ≡ 0 = omega arith in
    left_as (ap (λ n. repeated 8 (bits_of c.args.bytes.now l.counter n)) none) l.invariant.1
