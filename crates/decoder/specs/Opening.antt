-- Opening (document 01, "One cycle, one bit", "The register plan" and the refusal table).
-- Assumes nothing.
use Rattle.std.specs.Prelude.{false, cond, not, ℕ, leb}
use Rattle.recogniser.specs.Parts.{idle}
use Rattle.plans.specs.declared.Plan.{Plan}
use Rattle.plans.specs.Plan.{plan_fits, default_plan}
use Rattle.registers.specs.Parts.{cleared}
use Rattle.timing.specs.TooClose.{none}
use Rattle.decoder.specs.declared.Decoder.{Decoder}
use Rattle.decoder.specs.declared.Opened.{Opened}
use Rattle.decoder.specs.declared.Opening.{Opening}
use Rattle.decoder.specs.declared.Opening.TheVariants.{Accepted, WrongPlan, WrongCycle}
use Rattle.limits.specs.Limits.{clock_limit}

-- "a state that hunts, with window 00000, RunMode off, and registers, pointers, L1ID and warnings 0". "The base is the opening cycle". No record is before
-- the first (document 02, F-5).
abbrev pub opened_at : Plan → ℕ → Decoder
opened_at plan cycle = record {
  plan = plan;
  next = cycle;
  recogniser = idle;
  model = cleared false cycle;
  earlier = none;
}

abbrev pub opened : Decoder → Opening → Opened
opened d o = record { decoder = d; opening = o }

-- "The lowest number wins at each place. A refused opening gives the default start state at cycle 0".
unfoldable pub open_of : Plan → ℕ → Opened
open_of plan cycle =
    cond (not (plan_fits plan)) (opened (opened_at default_plan 0) WrongPlan)
    (cond (leb clock_limit cycle) (opened (opened_at default_plan 0) WrongCycle)
    (opened (opened_at plan cycle) Accepted))

-- The refusal number of each case; 0 is none.
abbrev pub opening_number : Opening → ℕ
opening_number Accepted = 0
opening_number WrongPlan = 1
opening_number WrongCycle = 2
