-- A run under way: what is still to be printed, and what each step of it keeps.
-- Assumes nothing.
use Rattle.std.specs.Prelude.{◌≡◌, ℕ, ◌+◌, ◌-◌, ◌*◌, ◌<◌, ◌≤◌, Bool, true, false, cond, not, ◌&&◌, ◌||◌, T, List, [], ◌∷◌, ◌++◌, length, take, drop, replicate, ◌==◌, nat_le, nat_lt, slice_set}
use Rattle.bits.specs.Bits.{bits_of}
use Rattle.plans.specs.Plan.{default_plan}
use Rattle.limits.specs.Limits.{store_length, tray_length}
use Rattle.decoder.specs.Opening.{open_of}
use Rattle.decoder.specs.Sound.{sound_of}
use Rattle.calls.specs.Turn.{System, system_of}
use Rattle.output.specs.Ascii.{line_feed}
use Rattle.output.specs.Block.{block_length}
use Rattle.line_meanings.specs.declared.LineSoFar.{LineSoFar}
use Rattle.line_meanings.specs.Line.{line_bytes}
use Rattle.line_meanings.specs.Lines.{LineRead, empty_line, no_characters, read_so_far, read_from}
use Rattle.messages.specs.Sentences.{sentence_of}
use Rattle.program.specs.declared.RunState.{RunState}
use Rattle.program.specs.Listing.{Refusal, refusal, no_refusal, Outcome, outcome, print_first, bits_then, listing_of}

-- The most bits of a line.
abbrev pub line_bits : ℕ
line_bits = 8 * line_bytes

-- The words of a taking call's list: 16 records.
abbrev pub list_words : ℕ
list_words = 32

-- The most bytes that a step puts into the block of output: a record's line has 28 bytes, 14 for each of its words; a frame's has two for each byte of
-- the tray, and two more.
abbrev pub step_room : ℕ
step_room = 14 * list_words + (2 * tray_length + 2)

abbrev pub start : RunState
start = record {
  decoder = (open_of default_plan 0).decoder;
  line = empty_line;
  lines = 0;
  bytes = replicate line_bytes 0;
  first = 0;
  count = 0;
  next = 0;
  length = 0;
  filled = 0;
  eof = false;
  over = false;
  number = 0;
}

-- The run with the buffers that it is lent: FIFO store, tray and the block of output.
pub record Snapshot : Type 0 where
  pub state : RunState
  pub store : List ℕ
  pub tray : List ℕ
  pub out : List ℕ

abbrev pub snapshot : RunState → List ℕ → List ℕ → List ℕ → Snapshot
snapshot s store tray out = record { state = s; store = store; tray = tray; out = out }

abbrev pub system_at : Snapshot → System
system_at g = system_of g.state.decoder g.store g.tray

-- What ended a run that is over.
abbrev pub end_of : RunState → Refusal
end_of s = cond (s.number == 0) no_refusal (refusal s.number s.lines s.line.notes)

-- What the message tells of it: the sentence of the number, the line's number and its notes.
abbrev pub message_of : RunState → List ℕ
message_of s = sentence_of s.number s.lines s.line.notes

-- All that is still to be printed, given the characters of the input that are not scanned yet: for the bits left of the last line, and for the lines of
-- those characters.
unfoldable pub still_to_print : Bool → Snapshot → List ℕ → Outcome
still_to_print frames g characters =
    let s = g.state in
    cond s.over (outcome [] (end_of s) (system_at g))
    (bits_then frames (system_at g) s.lines s.line.notes (bits_of s.bytes s.first s.count)
    (λ w. listing_of frames w s.lines (read_from s.line characters)))

-- What stands in the block of output, and then a rest of the listing.
abbrev pub block_then : Snapshot → Outcome → Outcome
block_then g rest = print_first (take g.state.filled g.out) rest

-- What stands in the block of output, and then all that is still to be printed.
abbrev pub all_printed : Bool → Snapshot → List ℕ → Outcome
all_printed frames g characters = block_then g (still_to_print frames g characters)

-- The same with no bits left of the last line, given the lines to come.
abbrev pub lines_printed : Bool → Snapshot → List LineRead → Outcome
lines_printed frames g lines = block_then g (listing_of frames (system_at g) g.state.lines lines)

-- What a run under way has: no taking call is refused but at the clock's end.
pub record WellFormed (g : Snapshot) : Type 0 where
  pub sound : T (sound_of g.state.decoder)
  pub store : length g.store ≡ store_length
  pub tray : length g.tray ≡ tray_length
  pub range : g.state.first + g.state.count ≤ line_bits
  pub filled : g.state.filled ≤ length g.out

-- What a step begins with: the run is not over, and there is room.
pub record StepReady (g : Snapshot) : Type 0 where
  pub well_formed : WellFormed g
  pub not_over : g.state.over ≡ false
  pub room : g.state.filled + step_room ≤ length g.out

-- The refusal of a taking call of a line's bits: only one at the clock's end takes no bits.
abbrev pub clock_number : ℕ → ℕ
clock_number bits = cond (bits == 0) 6 0

-- The measure of the steps' loop, given the length of the block of input: a step takes bits, or scans and so brings the bits of one line, or ends the run.
abbrev pub work_left : ℕ → RunState → ℕ
work_left input s = cond s.over 0 1 + (line_bits + 1) * (input - s.next) + s.count

-- A taking call keeps all that is printed in the end, whatever the characters to come.
pub record AfterTake (frames : Bool) (g h : Snapshot) : Type 0 where
  pub well_formed : WellFormed h
  pub same_listing : (characters : List ℕ) → all_printed frames h characters ≡ all_printed frames g characters
  pub same_next : h.state.next ≡ g.state.next
  pub same_length : h.state.length ≡ g.state.length
  pub same_eof : h.state.eof ≡ g.state.eof
  pub less_work : (input : ℕ) → work_left input h.state < work_left input g.state

-- The end of a line: what it means is listed next.
pub record AfterLineEnd (frames : Bool) (g h : Snapshot) : Type 0 where
  pub well_formed : WellFormed h
  pub same_listing : (characters : List ℕ) → all_printed frames h characters
      ≡ lines_printed frames g (read_so_far g.state.line ∷ read_from empty_line characters)
  pub same_next : h.state.next ≡ g.state.next
  pub same_length : h.state.length ≡ g.state.length
  pub same_eof : h.state.eof ≡ g.state.eof
  pub count : h.state.count ≤ line_bits

-- Steps keep all that is printed in the end, whatever more of the input follows its block.
pub record AfterSteps (frames : Bool) (input : List ℕ) (g h : Snapshot) : Type 0 where
  pub well_formed : WellFormed h
  pub same_listing : (more : List ℕ) → all_printed frames h (drop h.state.next input ++ more) ≡ all_printed frames g (drop g.state.next input ++ more)
  pub within : h.state.next ≤ length input
  pub same_length : h.state.length ≡ g.state.length
  pub same_eof : h.state.eof ≡ g.state.eof

-- Whether a step is to be made, by the lengths of the two blocks.
unfoldable pub can_step : ℕ → ℕ → RunState → Bool
can_step input output s = not s.over && ((not (s.count == 0) || nat_lt s.next input) && nat_le step_room (output - s.filled))

-- What the end of a line and the scan of a block do, whatever store and tray the run is lent.
abbrev pub EndsLine : RunState → List ℕ → RunState → List ℕ → Type 0
EndsLine s out r out' =
    (frames : Bool) (store tray : List ℕ) → StepReady (snapshot s store tray out) → s.count ≡ 0
    → AfterLineEnd frames (snapshot s store tray out) (snapshot r store tray out')

abbrev pub ScansLine : List ℕ → RunState → List ℕ → RunState → List ℕ → Type 0
ScansLine input s out r out' =
    (frames : Bool) (store tray : List ℕ) → StepReady (snapshot s store tray out) → s.count ≡ 0 → s.next < length input
    → AfterSteps frames input (snapshot s store tray out) (snapshot r store tray out') × (work_left (length input) r < work_left (length input) s)

-- The places of the block of input.
pub record PlacesInBlock (s : RunState) : Type 0 where
  pub next : s.next ≤ s.length
  pub length : s.length ≤ block_length

-- The run with another line so far, other places of the block of input, and other answers whether the input and the run have ended.
abbrev pub with_input : RunState → LineSoFar → ℕ → ℕ → Bool → Bool → ℕ → RunState
with_input s line next length eof over number = record {
  decoder = s.decoder;
  line = line;
  lines = s.lines;
  bytes = s.bytes;
  first = s.first;
  count = s.count;
  next = next;
  length = length;
  filled = s.filled;
  eof = eof;
  over = over;
  number = number;
}

-- Whether all that the last read brought is listed, and the next is due.
unfoldable pub wants_input : RunState → Bool
wants_input s = s.count == 0 && nat_le s.length s.next

-- A read that brought characters moves the places of the block alone. One that brought none is the input's end: it stands as a line feed after a line
-- that has begun, and ends the run after one that has not.
unfoldable pub received_of : RunState → ℕ → RunState
received_of s got =
    cond (got == 0)
    (with_input s s.line 0 1 true (no_characters s.line) 0)
    (with_input s s.line 0 got s.eof s.over s.number)

abbrev pub received_block : ℕ → List ℕ → List ℕ
received_block got input = cond (got == 0) (slice_set input 0 line_feed) input
