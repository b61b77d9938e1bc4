-- What a run of `compose` leaves. No contract can name what the system reads: `characters` below are those that some reads would bring.
-- Assumes nothing.
use Rattle.std.specs.Prelude.{List, ◌⊎◌, ◌≡◌, ℕ}
use Rattle.statuses.specs.Status.{failed, status_of}
use Rattle.order_texts.specs.Composed.{composed_of}

-- The status goes by the refusal of what is composed of some characters. In the proof these are the characters that the reads brought, one after the other.
pub record ComposedOn (status : ℕ) : Type 0 where
  pub characters : List ℕ
  pub told : status ≡ status_of (composed_of characters).refusal.number

-- Or the system failed.
abbrev pub ComposedRun : ℕ → Type 0
ComposedRun status = (status ≡ failed) ⊎ ComposedOn status
