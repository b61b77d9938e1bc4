-- What a run of `accept` leaves. No contract can name what the system reads: `characters` below are those that some reads would bring.
-- Assumes nothing.
use Rattle.std.specs.Prelude.{List, ◌⊎◌, ◌≡◌, ℕ}
use Rattle.statuses.specs.Status.{failed, status_of}
use Rattle.judgements.specs.Judgement.{judged_of}

-- The status goes by the number of the judgement on some characters. In the proof these are the characters that the reads brought, one after the other.
pub record JudgedOn (status : ℕ) : Type 0 where
  pub characters : List ℕ
  pub told : status ≡ status_of (judged_of characters).number

-- Or the system failed.
abbrev pub JudgedRun : ℕ → Type 0
JudgedRun status = (status ≡ failed) ⊎ JudgedOn status
