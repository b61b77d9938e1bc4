-- What a run of `reply` leaves. No contract can name what the system reads: `characters` below are those that some reads would bring.
-- Assumes nothing.
use Rattle.std.specs.Prelude.{cond, List, ◌⊎◌, ◌≡◌, ℕ, replicate}
use Rattle.statuses.specs.Status.{whole, refused, failed}
use Rattle.reply_reports.specs.declared.Report.{Report}
use Rattle.reply_reports.specs.Report.{whole_report, reply_read_of}

-- The status of a report: 0 for a whole reply; unless the system failed.
abbrev pub reply_status : Report → ℕ
reply_status report = cond (whole_report report) whole refused

abbrev pub ReplyFinished : Report → ℕ → Type 0
ReplyFinished report status = (status ≡ failed) ⊎ (status ≡ reply_status report)

-- The buffer of a run, which holds the most data bits.
abbrev pub empty_buffer : List ℕ
empty_buffer = replicate 1024 0

-- The status is that of the report on some characters. In the proof these are the characters that the reads brought, one after the other.
pub record RepliedOn (expected status : ℕ) : Type 0 where
  pub characters : List ℕ
  pub told : status ≡ reply_status (reply_read_of expected empty_buffer characters).report

-- Or the system failed.
abbrev pub RepliedRun : ℕ → ℕ → Type 0
RepliedRun expected status = (status ≡ failed) ⊎ RepliedOn expected status
