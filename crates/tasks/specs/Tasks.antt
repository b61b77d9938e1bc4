-- What the programs do with their input.
-- Assumes nothing.
use Rattle.std.specs.Prelude.{Bool, true, ℕ}
use Rattle.replies.specs.Replies.{expected_fits}
use Rattle.tasks.specs.declared.Task.{Task}
use Rattle.tasks.specs.declared.Task.TheVariants.{Station, Reading, Model, Accept, Compose, Reply}

-- The place of the word that names the input: the first, and behind COUNT.
abbrev pub input_place : Task → ℕ
input_place Station = 1
input_place Reading = 1
input_place Model = 1
input_place Accept = 1
input_place Compose = 1
input_place (Reply bits) = 2

-- A reply has as many data bits as may be expected.
abbrev pub task_fits : Task → Bool
task_fits Station = true
task_fits Reading = true
task_fits Model = true
task_fits Accept = true
task_fits Compose = true
task_fits (Reply bits) = expected_fits bits
