-- What the output of an accepted composing holds (document 02, F-2).
-- Assumes nothing.
use Rattle.std.specs.Prelude.{List, ◌≡◌, ℕ, ◌+◌, ◌*◌, ◌/◌, ◌<◌, ◌≤◌, length, get_or}
use Rattle.limits.specs.Limits.{clock_limit}
use Rattle.bits.specs.Bits.{bit_of, bits_of}
use Rattle.plans.specs.declared.Plan.{Plan}
use Rattle.orders.specs.Fields.{Ordered}
use Rattle.orders.specs.Streams.{stream_of}
use Rattle.orders.specs.Composing.{compose_of}
use Rattle.round_trip.specs.ReadBack.{Fit}

-- Some bits from the first byte on, "within a byte the highest bit first". "The last byte is filled up with zeros and bytes beyond it are unchanged."
pub record HoldsBits (bits output after : List ℕ) : Type 0 where
  pub read : bits_of after 0 (length bits) ≡ bits
  pub filled_up : (i : ℕ) → length bits ≤ i → i < 8 * ((length bits + 7) / 8) → bit_of after i ≡ 0
  pub unchanged : (n : ℕ) → (length bits + 7) / 8 ≤ n → get_or after n 0 ≡ get_or output n 0
  pub long : length after ≡ length output

-- The orders are fit, "the answer is the count of bits", which a clock that starts at 0 can take, and the output holds the stream.
pub record ComposedBytes (plan : Plan) (xs : List Ordered) (output : List ℕ) : Type 0 where
  pub fit : Fit plan xs
  pub count : (compose_of plan xs output).answer.bits ≡ length (stream_of xs)
  pub clock : length (stream_of xs) ≤ clock_limit
  pub holds : HoldsBits (stream_of xs) output (compose_of plan xs output).output

abbrev pub Bytes : Type 0
Bytes = (plan : Plan) (xs : List Ordered) (output : List ℕ) → (compose_of plan xs output).answer.number ≡ 0 → ComposedBytes plan xs output
