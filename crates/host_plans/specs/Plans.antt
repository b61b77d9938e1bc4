-- A plan by four numbers of any size, as hosts give it (ours).
-- Assumes nothing.
use Rattle.std.specs.Prelude.{cond, ◌&&◌, ℕ, ◌^◌, ltb}
use Rattle.plans.specs.declared.Plan.{Plan}

-- The plan without a register; it does not open.
abbrev pub empty_plan : Plan
empty_plan = record { mask = 0; csr = 0; feen = 0; cnt = 0 }

-- The plan of four numbers of any size: those wider than a plan's make the empty one.
abbrev pub plan_of : ℕ → ℕ → ℕ → ℕ → Plan
plan_of mask csr feen cnt =
    cond (ltb mask (2 ^ 16) && (ltb csr (2 ^ 8) && (ltb feen (2 ^ 8) && ltb cnt (2 ^ 8))))
    (record { mask = mask; csr = csr; feen = feen; cnt = cnt })
    empty_plan
