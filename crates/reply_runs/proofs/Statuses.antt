-- The status of a run by its report.
-- Assumes nothing.
use mathlib.Core.Path.{◌≡◌, ◌∙◌, refl, sym, ap, subst}
use mathlib.Core.Bool.{Bool, true, false}
use mathlib.Core.Logic.{◌⊎◌, inl, inr, ⊎_elim}
use mathlib.Core.List.{List, [], ◌++◌}
use Prim.Native.Nat.{ℕ, ◌≤◌}
use native.Mathlib.Omega.{arith}
use lib.Dec.{leb}
use lib.ListN.{length}
use borrow.Author.Tests.{leb-true}
use Rattle.bits.proofs.Truth.{both, cond_most}
use Rattle.output.specs.Block.{block_length}
use Rattle.statuses.specs.Status.{IsStatus}
use Rattle.replies.specs.Replies.{most_bits, expected_fits}
use Rattle.reply_reports.specs.declared.Report.{Report}
use Rattle.reply_reports.specs.Report.{whole_report, ReplyRead, reply_read_of}
use Rattle.replying.specs.declared.Replying.{Replying}
use Rattle.replying.specs.Replying.{start, ReplyRun, reply_run, report_of, ReceivesBlock, EndsInput}
use Rattle.replying.proofs.Standing.{Stands, start_stands, block_stands, end_stands}
use Rattle.reply_runs.specs.Runs.{reply_status, ReplyFinished, empty_buffer, RepliedOn, RepliedRun}

-- The status of a report, by whether it is whole.
module _ (p q : Report) (e : p ≡ q) (b : Bool) (told : b ≡ whole_report p) where
  pub whole_status : b ≡ true → ReplyFinished q 0
  whole_status t = inr (rw (sym (told ∙ ap whole_report e) ∙ t))

  pub refused_status : b ≡ false → ReplyFinished q 1
  refused_status t = inr (rw (sym (told ∙ ap whole_report e) ∙ t))

module _ {expected : ℕ} where
  -- Of a run that stands for the characters it read.
  pub replied_run : {characters : List ℕ} {s r : ReplyRun} {status : ℕ} → Stands expected empty_buffer characters s → EndsInput s r
      → ReplyFinished (report_of r.state) status → RepliedRun expected status
  replied_run {characters} t e f =
      ⊎_elim inl (λ told. inr (record {
        characters = characters;
        told = told ∙ ap (λ (a : ReplyRead). reply_status a.report) (sym (end_stands expected empty_buffer t e));
      })) f

  -- From the start on.
  not_many : expected_fits expected ≡ true → expected ≤ most_bits
  not_many h = leb-true expected most_bits (both (leb 1 expected) (leb expected most_bits) h).1

  pub replied_from_start : {characters : List ℕ} {s : Replying} {r t : ReplyRun} {status : ℕ} → expected_fits expected ≡ true → s ≡ start expected
      → ReceivesBlock (reply_run s empty_buffer) characters r → EndsInput r t → ReplyFinished (report_of t.state) status → RepliedRun expected status
  replied_from_start fits e j ends =
      let first : Stands expected empty_buffer [] (reply_run (start expected) empty_buffer) = start_stands expected empty_buffer (not_many fits) in
      replied_run
      (block_stands expected empty_buffer (subst (λ (s : Replying). Stands expected empty_buffer [] (reply_run s empty_buffer)) (sym e) first) j)
      ends
