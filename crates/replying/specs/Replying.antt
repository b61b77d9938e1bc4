-- A run of `reply` under way: what is still said of its stream, and what each step keeps.
-- Assumes nothing.
use Rattle.std.specs.Prelude.{◌≡◌, Bool, true, not, ◌||◌, List, [], ◌++◌, ℕ, eqb}
use Rattle.replies.specs.Reception as reception
use Rattle.replies.specs.Reception.{Received, received, is_whole, after_of, said_of, Fits}
use Rattle.hex_streams.specs.declared.StreamPart.{StreamPart}
use Rattle.hex_streams.specs.Streams.{HexStream}
use Rattle.hex_streams.specs.SoFar as stream
use Rattle.hex_streams.specs.SoFar.{stream_end, rest_of, part_bits}
use Rattle.line_meanings.specs.Blocks.{joined, InBlocks}
use Rattle.reply_reports.specs.declared.Report.{Report}
use Rattle.reply_reports.specs.Report.{report_by, ReplyRead, reply_read, reply_read_of}
use Rattle.replying.specs.declared.Replying.{Replying}

abbrev pub start : ℕ → Replying
start expected = record { expected = expected; reception = reception.start expected; stream = stream.start }

abbrev pub is_over : Replying → Bool
is_over s = is_whole s.reception || not (eqb s.stream.number 0)

-- A run with the buffer that it fills.
pub record ReplyRun : Type 0 where
  pub state : Replying
  pub buffer : List ℕ

abbrev pub reply_run : Replying → List ℕ → ReplyRun
reply_run s buffer = record { state = s; buffer = buffer }

abbrev pub received_in : ReplyRun → Received
received_in r = received r.state.reception r.buffer

-- What is said in the end, given what still comes of the stream.
abbrev pub said_on : ReplyRun → HexStream → ReplyRead
said_on r rest =
    let after = after_of (received_in r) rest.bits in
    reply_read (report_by r.state.expected (said_of after.reception) rest) after.buffer

-- The same given the characters that are still to come, and if the run ends here, after a line's end.
abbrev pub still_read : ReplyRun → List ℕ → ReplyRead
still_read r characters = said_on r (rest_of r.state.stream characters)

abbrev pub report_of : Replying → Report
report_of s = report_by s.expected (said_of s.reception) (stream_end s.stream)

-- What each run has.
pub record WellFormed (s : Replying) : Type 0 where
  pub fits : Fits s.reception
  pub clock : stream.WellFormed s.stream

-- More of the stream.
pub record Receives (s : ReplyRun) (part : StreamPart) (r : ReplyRun) : Type 0 where
  pub well_formed : WellFormed r.state
  pub expected : r.state.expected ≡ s.state.expected
  pub stream : r.state.stream ≡ part.stream
  pub after : received_in r ≡ after_of (received_in s) (part_bits part)

-- A block of characters, whatever more follow.
pub record ReceivesBlock (s : ReplyRun) (characters : List ℕ) (r : ReplyRun) : Type 0 where
  pub well_formed : WellFormed r.state
  pub same : (more : List ℕ) → still_read r more ≡ still_read s (characters ++ more)

-- The input's end, which ends a line that has begun.
pub record EndsInput (s r : ReplyRun) : Type 0 where
  pub well_formed : WellFormed r.state
  pub same : reply_read (report_of r.state) r.buffer ≡ still_read s []

-- A run that is over has said all: whatever input follows, which it does not read, the same is said of all of it.
abbrev pub AsStopped : Type 0
AsStopped =
    (expected : ℕ) (buffer : List ℕ) (blocks : List (List ℕ)) (r e : ReplyRun) (unread : List ℕ)
    → InBlocks ReceivesBlock (reply_run (start expected) buffer) blocks r → is_over r.state ≡ true → EndsInput r e
    → reply_read (report_of e.state) e.buffer ≡ reply_read_of expected buffer (joined blocks ++ unread)

-- Wherever the reads end: blocks from the start on, and then the input's end, come to what the program says of all their characters.
abbrev pub AsRead : Type 0
AsRead =
    (expected : ℕ) (buffer : List ℕ) (blocks : List (List ℕ)) (r e : ReplyRun)
    → InBlocks ReceivesBlock (reply_run (start expected) buffer) blocks r → EndsInput r e
    → reply_read (report_of e.state) e.buffer ≡ reply_read_of expected buffer (joined blocks)
