-- The default plan in numbers of its own: a change of the code and of the definition together is refused here.
-- Assumes nothing.
use mathlib.Core.Path.{◌≡◌, refl}
use Rattle.plans.specs.declared.Plan.{Plan}
use Rattle.plans.specs.Plan.{default_plan}

pub default_numbers : default_plan ≡ record { mask = 0x07FF; csr = 0; feen = 2; cnt = 5 }
default_numbers = refl
