-- The turns of the loop that runs a program, by the contracts of the functions that it calls: a read, its characters received and listed, and what was put
-- into the block of output written.
-- Assumes nothing.
use Rattle.std.specs.Prelude.{◌≡◌, ℕ, ◌≤◌, Bool, true, false, cond, T, List, [], ◌∷◌, ◌++◌, length, take}
use Rattle.output.specs.Block.{block_length}
use Rattle.program.specs.declared.RunState.{RunState}
use Rattle.program.specs.RunState.{Snapshot, snapshot, AfterSteps, wants_input, received_of, received_block}

-- The next read, where it is due: it brought so many characters at the start of a block, none if the input has ended, and the run received them.
-- Where none is due, all is as it was.
pub record Refill (s : RunState) (input : List ℕ) (got : ℕ) (brought : List ℕ) (r : RunState) (input' : List ℕ) : Type 0 where
  pub few : got ≤ length input
  pub long : length brought ≡ length input
  pub ended : s.eof ≡ true → got ≡ 0
  pub state : r ≡ cond (wants_input s) (received_of s got) s
  pub block : input' ≡ cond (wants_input s) (received_block got brought) input

-- The characters that it brought.
abbrev pub characters_read : RunState → ℕ → List ℕ → List ℕ
characters_read s got brought = cond (wants_input s) (take got brought) []

-- The run with its block of output empty again.
abbrev pub emptied : RunState → RunState
emptied s = record {
  decoder = s.decoder;
  line = s.line;
  lines = s.lines;
  bytes = s.bytes;
  first = s.first;
  count = s.count;
  next = s.next;
  length = s.length;
  filled = 0;
  eof = s.eof;
  over = s.over;
  number = s.number;
}

abbrev pub after_write : Snapshot → Snapshot
after_write g = snapshot (emptied g.state) g.store g.tray g.out

-- What stands in the block of output.
abbrev pub text_put : Snapshot → List ℕ
text_put g = take g.state.filled g.out

-- A turn: what its read brought, the run and the block of input after it, and the run once the block is listed.
pub record Turn : Type 0 where
  pub got : ℕ
  pub brought : List ℕ
  pub received : RunState
  pub block : List ℕ
  pub listed : Snapshot

-- From a run that is not over.
pub record TurnMade (frames : Bool) (g : Snapshot) (input : List ℕ) (t : Turn) : Type 0 where
  pub under_way : g.state.over ≡ false
  pub refill : Refill g.state input t.got t.brought t.received t.block
  pub steps : AfterSteps frames (take t.received.length t.block) (snapshot t.received g.store g.tray g.out) t.listed
  pub room : length t.listed.out ≡ block_length

-- Turns in a row, each from where the one before has left.
abbrev pub TurnsMade : Bool → Snapshot → List ℕ → List Turn → Type 0
TurnsMade frames g input [] = T true
TurnsMade frames g input (t ∷ ts) = TurnMade frames g input t × TurnsMade frames (after_write t.listed) t.block ts

-- All that they read, all that they write, and where they leave the run.
abbrev pub all_read : Snapshot → List Turn → List ℕ
all_read g [] = []
all_read g (t ∷ ts) = characters_read g.state t.got t.brought ++ all_read (after_write t.listed) ts

abbrev pub all_written : List Turn → List ℕ
all_written [] = []
all_written (t ∷ ts) = text_put t.listed ++ all_written ts

abbrev pub last_of : Snapshot → List Turn → Snapshot
last_of g [] = g
last_of g (t ∷ ts) = last_of (after_write t.listed) ts
