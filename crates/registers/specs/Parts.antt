-- The parts of the model, made and replaced: the language has no update syntax.
-- Assumes nothing.
use Rattle.std.specs.Prelude.{Bool, false, List, ℕ}
use Rattle.registers.specs.declared.Counters.{Counters}
use Rattle.registers.specs.declared.Warnings.{Warnings}
use Rattle.registers.specs.declared.Pointers.{Pointers}
use Rattle.registers.specs.declared.Model.{Model}
use Rattle.registers.specs.Registers.{zeros16}

abbrev pub counters : ℕ → ℕ → Counters
counters l1id base = record { l1id = l1id; base = base }

abbrev pub warnings : Bool → Bool → Bool → Warnings
warnings wlv1 wfst wslw = record { wlv1 = wlv1; wfst = wfst; wslw = wslw }

abbrev pub no_warnings : Warnings
no_warnings = warnings false false false

abbrev pub pointers : List ℕ → List ℕ → Pointers
pointers writes reads = record { writes = writes; reads = reads }

abbrev pub zero_pointers : Pointers
zero_pointers = pointers zeros16 zeros16

abbrev pub model : Bool → Counters → Warnings → List ℕ → Pointers → Model
model running c w registers p = record { running = running; counters = c; warnings = w; registers = registers; pointers = p }

-- "registers, pointers, L1ID and warnings 0" (opening, GlobalResetMCC), with a base cycle.
abbrev pub cleared : Bool → ℕ → Model
cleared running base = model running (counters 0 base) no_warnings zeros16 zero_pointers

abbrev pub with_running : Bool → Model → Model
with_running running m = model running m.counters m.warnings m.registers m.pointers

abbrev pub with_counters : Counters → Model → Model
with_counters c m = model m.running c m.warnings m.registers m.pointers

abbrev pub with_warnings : Warnings → Model → Model
with_warnings w m = model m.running m.counters w m.registers m.pointers

abbrev pub with_registers : List ℕ → Model → Model
with_registers registers m = model m.running m.counters m.warnings registers m.pointers

abbrev pub with_pointers : Pointers → Model → Model
with_pointers p m = model m.running m.counters m.warnings m.registers p
