-- What a run of `reply` stands for: the characters read so far, whatever more follow.
-- Assumes nothing.
use mathlib.Core.Path.{◌≡◌, ◌∙◌, refl, sym, ap}
use mathlib.Core.List.{List, [], ◌++◌, append_assoc, append-nil}
use Prim.Native.Nat.{ℕ, ◌≤◌}
use native.Mathlib.Omega.{arith}
use Rattle.replies.specs.Replies.{most_bits, ReplyResult, read_of}
use Rattle.replies.proofs.Kept.{start_fits}
use Rattle.replies.proofs.Headers as headers
use Rattle.hex_streams.specs.Streams.{HexStream, hex_stream_of}
use Rattle.line_meanings.specs.Blocks.{joined}
use Rattle.hex_streams.proofs.Rest.{from_start, stream_binary}
use Rattle.line_meanings.proofs.InBlocks.{in_blocks}
use Rattle.reply_reports.specs.Report.{report_by, reply_read, reply_read_of}
use Rattle.replying.specs.Replying.{start, ReplyRun, reply_run, said_on, still_read, report_of, WellFormed, ReceivesBlock, EndsInput, AsRead, AsStopped}
use Rattle.replying.proofs.Parts.{over_said}

module _ (expected : ℕ) (buffer : List ℕ) where
  pub record Stands (characters : List ℕ) (r : ReplyRun) : Type 0 where
    pub well_formed : WellFormed r.state
    pub same : (more : List ℕ) → reply_read_of expected buffer (characters ++ more) ≡ still_read r more

  -- All is said from the start.
  start_said : (characters : List ℕ) → reply_read_of expected buffer characters ≡ still_read (reply_run (start expected) buffer) characters
  unfolding reply_read_of
  start_said characters =
      let stream = hex_stream_of characters in
      sym (ap (said_on (reply_run (start expected) buffer)) (from_start characters)
      ∙ ap (λ (r : ReplyResult). reply_read (report_by expected r.reply stream) r.buffer)
      (headers.from_start expected buffer stream.bits (stream_binary characters)))

  pub start_stands : expected ≤ most_bits → Stands [] (reply_run (start expected) buffer)
  start_stands h = record { well_formed = record { fits = start_fits expected h; clock = omega arith }; same = start_said }

  pub block_stands : {characters : List ℕ} {s r : ReplyRun} {block : List ℕ} → Stands characters s → ReceivesBlock s block r → Stands (characters ++ block) r
  block_stands {characters} {block = block} t j = record {
    well_formed = j.well_formed;
    same = λ more. ap (reply_read_of expected buffer) (append_assoc characters block more) ∙ t.same (block ++ more) ∙ sym (j.same more);
  }

  -- At the end, what is said is what is said of them all.
  pub end_stands : {characters : List ℕ} {s r : ReplyRun} → Stands characters s → EndsInput s r
      → reply_read_of expected buffer characters ≡ reply_read (report_of r.state) r.buffer
  end_stands {characters} t e = sym (ap (reply_read_of expected buffer) (append-nil characters)) ∙ t.same [] ∙ sym e.same

pub as_read : AsRead
as_read expected buffer blocks r e b ends =
    ends.same
    ∙ in_blocks ReceivesBlock still_read (λ s block t j. j.same) blocks (reply_run (start expected) buffer) r b []
    ∙ sym (start_said expected buffer (joined blocks ++ []))
    ∙ ap (reply_read_of expected buffer) (append-nil (joined blocks))

pub as_stopped : AsStopped
as_stopped expected buffer blocks r e unread b over ends =
    ends.same
    ∙ over_said r [] unread over
    ∙ in_blocks ReceivesBlock still_read (λ s block t j. j.same) blocks (reply_run (start expected) buffer) r b unread
    ∙ sym (start_said expected buffer (joined blocks ++ unread))
