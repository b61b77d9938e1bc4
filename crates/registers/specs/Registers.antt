-- Registers and the warnings in CSR (document 01, "What commands do").
-- Assumes nothing.
use Rattle.std.specs.Prelude.{cond, List, ℕ, ◌+◌, ◌*◌, ◌/◌, ◌%◌, eqb, get_or, set, replicate}
use Rattle.plans.specs.declared.Plan.{Plan}
use Rattle.registers.specs.declared.Warnings.{Warnings}
use Rattle.registers.specs.declared.Model.{Model}

-- All sixteen registers or pointers at 0.
abbrev pub zeros16 : List ℕ
zeros16 = replicate 16 0

abbrev pub register_of : Model → ℕ → ℕ
register_of m address = get_or m.registers address 0

-- CNT and FEEN as they stand.
abbrev pub cnt_of : Plan → Model → ℕ
cnt_of plan m = register_of m plan.cnt

abbrev pub feen_of : Plan → Model → ℕ
feen_of plan m = register_of m plan.feen

-- The warnings as a number: WLV1, WFST and WSLW from the lowest bit.
abbrev pub warning_bits : Warnings → ℕ
warning_bits w = cond w.wlv1 1 0 + cond w.wfst 2 0 + cond w.wslw 4 0

-- A number with its bits 8, 9 and 10 replaced.
abbrev pub csr_with : ℕ → ℕ → ℕ
csr_with value warnings = value % 256 + warnings * 256 + value / 2048 * 2048

-- "CSR bits 8, 9, 10 read as the warnings".
abbrev pub read_of : Plan → Model → ℕ → ℕ
read_of plan m address =
    cond (eqb address plan.csr) (csr_with (register_of m address) (warning_bits m.warnings)) (register_of m address)

-- The registers after a write; CSR's warning bits "are not writable" and are stored as 0.
abbrev pub written_of : Plan → Model → ℕ → ℕ → List ℕ
written_of plan m address value =
    set m.registers address (cond (eqb address plan.csr) (csr_with value 0) value)
