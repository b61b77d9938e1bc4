-- What a request has whose record fits, and what requests change.
-- Assumes nothing.
use Rattle.std.specs.Prelude.{Bool, true, false, ◌||◌, ltb, eqb}
use Rattle.recogniser.specs.declared.SlowRequest.{SlowRequest}
use Rattle.recogniser.specs.declared.SlowRequest.TheVariants.{LeaveRunMode, Command, Bad, Frame}
use Rattle.recogniser.specs.declared.Request.{Request}
use Rattle.recogniser.specs.declared.Request.TheVariants.{Nothing, Lv1, Fast, BadFast, Slow}

-- A body and Field 3 have four bits ("Hunting", "Slow commands"), so that a kind made of one stays below 256. The requests that store to registers are
-- WrRegister and GlobalResetMCC; those that set RunMode: "RunMode ends at the ninth header bit of any Slow and starts at the end of EnDataTake."
pub record Traits : Type 0 where
  pub fits : Bool
  pub registers : Bool
  pub running : Bool

abbrev pub traits : Bool → Bool → Bool → Traits
traits fits registers running = record { fits = fits; registers = registers; running = running }

abbrev pub slow_traits : SlowRequest → Traits
slow_traits LeaveRunMode = traits true false true
slow_traits (Command command address value) = traits true (eqb command 0 || eqb command 9) (eqb command 8)
slow_traits (Bad command) = traits true false false
slow_traits (Frame command unsteady) = traits (ltb command 16) false false

abbrev pub traits_of : Request → Traits
traits_of Nothing = traits true false false
traits_of (Lv1 position) = traits true false false
traits_of (Fast body) = traits (ltb body 16) false false
traits_of (BadFast body) = traits true false false
traits_of (Slow slow) = slow_traits slow

abbrev pub slow_fits : SlowRequest → Bool
slow_fits s = (slow_traits s).fits

abbrev pub request_fits : Request → Bool
request_fits q = (traits_of q).fits

abbrev pub changes_registers : Request → Bool
changes_registers q = (traits_of q).registers

abbrev pub changes_running : Request → Bool
changes_running q = (traits_of q).running
