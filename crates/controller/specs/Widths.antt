-- Widths: of what the model holds, of a request's fields, and of the records that they give (document 01, "A record" and "A taking call").
-- Assumes nothing.
use Rattle.std.specs.Prelude.{List, [], ◌∷◌, ℕ, ◌/◌, ◌^◌, ◌<◌, ◌≤◌, get_or}
use Rattle.limits.specs.Limits.{clock_limit}
use Rattle.recogniser.specs.declared.SlowRequest.{SlowRequest}
use Rattle.recogniser.specs.declared.SlowRequest.TheVariants.{LeaveRunMode, Command, Bad, Frame}
use Rattle.recogniser.specs.declared.Request.{Request}
use Rattle.recogniser.specs.declared.Request.TheVariants.{Nothing, Lv1, Fast, BadFast, Slow}
use Rattle.registers.specs.declared.Counters.{Counters}
use Rattle.registers.specs.declared.Model.{Model}

-- "Registers, L1ID .. fit their widths". Every state of a program has this by its types.
pub record WidthsFit (registers : List ℕ) (c : Counters) : Type 0 where
  pub l1id : c.l1id < 2 ^ 8
  pub each_register : (n : ℕ) → get_or registers n 0 < 2 ^ 16

abbrev pub ModelFits : Model → Type 0
ModelFits m = WidthsFit m.registers m.counters

-- A body, Field 3 and Field 4 have four bits each. An LV1's position is at most 5.
abbrev pub SlowNarrow : SlowRequest → Type 0
SlowNarrow LeaveRunMode = Unit {0}
SlowNarrow (Command command address value) = address < 2 ^ 4
SlowNarrow (Bad command) = command < 2 ^ 4
SlowNarrow (Frame command unsteady) = command < 2 ^ 4

abbrev pub Narrow : Request → Type 0
Narrow Nothing = Unit {0}
Narrow (Lv1 position) = position ≤ 5
Narrow (Fast body) = body < 2 ^ 4
Narrow (BadFast body) = body < 2 ^ 4
Narrow (Slow slow) = SlowNarrow slow

-- "a value below 2^32"
abbrev pub ValueFits : ℕ → Type 0
ValueFits value = value < 2 ^ 32

-- The words of whole records, each with its time below 2^48 and a value that fits: 12 and 8 hexadecimal digits, as a record's line has them.
abbrev pub WordsFit : List ℕ → Type 0
WordsFit [] = Unit {0}
WordsFit (head ∷ []) = ⊥
WordsFit (head ∷ value ∷ words) = (head / 65536 < clock_limit) × ValueFits value × WordsFit words
