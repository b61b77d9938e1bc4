-- However a run ends, it has a status.
-- Assumes nothing.
use Rattle.std.specs.Prelude.{Result, Ok, Err}
use native.Mathlib.Omega.{arith}
use Rattle.statuses.specs.declared.Status.{Status}
use Rattle.statuses.specs.declared.Status.TheVariants.{Whole, Refused, WrongWords, Failed}
use Rattle.statuses.specs.Status.{told, IsStatus}

pub told_status : {E : Type 0} (r : Result Status E) → IsStatus (told r)
told_status (Ok Whole) = omega arith
told_status (Ok Refused) = omega arith
told_status (Ok WrongWords) = omega arith
told_status (Ok Failed) = omega arith
told_status (Err e) = omega arith
