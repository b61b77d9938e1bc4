-- The register plan (document 01, "The register plan").
-- Assumes nothing.
use Rattle.std.specs.Prelude.{Bool, not, ◌&&◌, ℕ, ◌/◌, ◌%◌, ◌^◌, ltb, eqb}
use Rattle.plans.specs.declared.Plan.{Plan}

-- Whether an address is in the mask. Addresses have four bits.
abbrev pub exists_at : Plan → ℕ → Bool
exists_at plan address = ltb address 16 && eqb (plan.mask / 2 ^ address % 2) 1

-- Number 1 does not apply: CSR, FEEN and CNT are "three different ones in the mask".
unfoldable pub plan_fits : Plan → Bool
plan_fits plan =
    exists_at plan plan.csr
    && (exists_at plan plan.feen
    && (exists_at plan plan.cnt
    && (not (eqb plan.csr plan.feen) && (not (eqb plan.csr plan.cnt) && not (eqb plan.feen plan.cnt)))))

-- "The default is mask hexadecimal 007F, CSR 0, FEEN 2, CNT 5." The mask "becomes hexadecimal 07FF, with the same three addresses" (document 02, F-9).
abbrev pub default_plan : Plan
default_plan = record { mask = 0x07FF; csr = 0; feen = 2; cnt = 5 }
