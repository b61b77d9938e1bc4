-- The worked examples of windows, streams and calls: the definitions give every row of every table, and the tables have this many rows.
-- Assumes nothing.
use Rattle.windows.specs.Windows.{meaning_of}
use Rattle.worked_examples.specs.Table.{Table}
use Rattle.worked_examples.specs.Example.{Gives}
use Rattle.worked_examples.specs.WindowTable as windows
use Rattle.worked_examples.specs.StreamTable as streams
use Rattle.worked_examples.specs.ChipTable as chip
use Rattle.worked_examples.specs.CommandTable as commands
use Rattle.worked_examples.specs.TimingTable as timing
use Rattle.worked_examples.specs.SoundTable as sound
use Rattle.worked_examples.specs.CallTable as calls
use Rattle.worked_examples.specs.RangeTable as ranges

-- The marked streams, all rows together.
abbrev pub MarkedStreams : Type 0
MarkedStreams = Gives 14 streams.table

-- All 32 windows: the definition gives document 01's list with the positions of document 02, F-1; and an LV1 is exactly what lies at distance 0 or 1.
pub record WindowExamples : Type 0 where
  pub listed : Table meaning_of windows.listed_meaning 32 windows.windows
  pub near : Table meaning_of windows.near_meaning 32 windows.windows

-- The taking call.
pub record TakingExamples : Type 0 where
  pub marked : MarkedStreams
  pub chip_gives : Gives 80 chip.table
  pub commands_give : Gives 31 commands.table
  pub timing_gives : Gives 49 timing.table
  pub sound_gives : Gives 129 sound.table
  pub calls_give : Table calls.call_shown calls.call_expected 28 calls.table
  pub ranges_give : Table ranges.range_shown ranges.range_expected 18 ranges.table
  pub before_gives : Table ranges.before_shown ranges.range_expected 6 ranges.before_table
