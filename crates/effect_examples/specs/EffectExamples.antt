-- The worked examples of what commands do: the definitions give every row of every table, and the tables have this many rows.
-- Assumes nothing.
use Rattle.worked_examples.specs.Example.{Gives}
use Rattle.effect_examples.specs.RegisterTable as registers
use Rattle.effect_examples.specs.FifoTable as fifos
use Rattle.effect_examples.specs.CounterTable as counters
use Rattle.effect_examples.specs.FrameTable as frames
use Rattle.effect_examples.specs.EffectTable as effects

pub record EffectExamples : Type 0 where
  pub registers_give : Gives 20 registers.table
  pub fifos_give : Gives 12 fifos.table
  pub counters_give : Gives 12 counters.table
  pub frames_give : Gives 30 frames.table
  pub effects_give : Gives 29 effects.table
  pub parts_give : frames.FrameParts
