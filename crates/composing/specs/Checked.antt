-- What the parts of composing answer: the check of all orders ahead of the first bit, and one order written.
-- Assumes nothing.
use Rattle.std.specs.Prelude.{◌≡◌, true, cond, List, ℕ, ◌+◌, ◌*◌, ◌^◌, ◌<◌, ◌≤◌, leb, eqb, length}
use Rattle.limits.specs.Limits.{clock_limit}
use Rattle.records.specs.Records.{kind_slow}
use Rattle.plans.specs.declared.Plan.{Plan}
use Rattle.orders.specs.declared.Order.{Order}
use Rattle.orders.specs.Composed.{Composed}
use Rattle.orders.specs.Fields.{Ordered, is_frame_kind, order_fits}
use Rattle.orders.specs.Streams.{command_bits, stream_of}
use Rattle.orders.specs.Composing.{start, composed, refusal_from}
use Rattle.stream_writer.specs.declared.Writer.{Writer}
use Rattle.stream_writer.specs.Writer.{place_of}

abbrev pub ordered : Order → List ℕ → Ordered
ordered o lent = record { order = o; lent = lent }

-- Fit for some CNT, with so many bytes lent for its frame.
pub record SomeFit (o : Order) (bytes : ℕ) : Type 0 where
  pub cnt : ℕ
  pub narrow : cnt < 2 ^ 16
  pub fits : order_fits cnt o bytes ≡ true

-- The same of a Slow, and of one that carries a frame.
pub record SlowFit (o : Order) (bytes : ℕ) : Type 0 where
  pub some : SomeFit o bytes
  pub slow : kind_slow 0 ≤ o.kind

pub record FrameFit (o : Order) (bytes : ℕ) : Type 0 where
  pub some : SomeFit o bytes
  pub frame : is_frame_kind o.kind ≡ true

-- How many bits a command has, whatever a frame's bits are.
abbrev pub WidthOf : Order → ℕ → Type 0
WidthOf o width = (lent : List ℕ) → width ≡ length (command_bits (ordered o lent))

-- Room for some bits.
abbrev pub Room : Writer → List ℕ → List ℕ → Type 0
Room w out bits = place_of w + length bits ≤ 8 * length out

-- A count of bits; all counts beyond the clock's are one.
abbrev pub capped : ℕ → ℕ
capped n = cond (leb n clock_limit) n (clock_limit + 1)

-- The first refusal of an order, or the count of the stream's bits.
unfoldable pub checked_of : Plan → List Ordered → Composed
checked_of plan xs =
    let refusal = refusal_from plan start 0 xs in
    cond (eqb refusal.number 0) (composed 0 0 (capped (length (stream_of xs)))) refusal
