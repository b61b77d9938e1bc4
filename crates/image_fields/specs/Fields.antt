-- The fields of the state, one row each, in the image's order; and the state made of its fields, each by its name.
-- To add one is its row, and its name where the state is made: all other definitions about an image follow (`Image`).
-- Assumes nothing.
use Rattle.std.specs.Prelude.{Bool, cond, List, [], ◌∷◌, ◌++◌, ℕ, eqb, get_or}
use Prim.Native.String.{String}
use mir.Val.{bool_byte}
use Rattle.recogniser.specs.declared.Phase.{Phase}
use Rattle.recogniser.specs.declared.Phase.TheVariants.{Hunt, Body, Field3, Field4, Field5}
use Rattle.recogniser.specs.declared.Recogniser.{Recogniser}
use Rattle.plans.specs.declared.Plan.{Plan}
use Rattle.registers.specs.declared.Pointers.{Pointers}
use Rattle.registers.specs.declared.Model.{Model}
use Rattle.timing.specs.declared.Earlier.{Earlier}
use Rattle.decoder.specs.declared.Decoder.{Decoder}

-- What a word of a field may be: any, a number of so many bits, or one from 0 up to a number.
pub data Limit : Type 0 where
  whole : Limit
  bits : ℕ → Limit
  up_to : ℕ → Limit

-- A field's name and where a state has it: a number or an array of 16, with what each word may be, or a flag or a phase, each by its number.
pub data Field : Type 0 where
  number : String → Limit → (Decoder → ℕ) → Field
  flag : String → (Decoder → Bool) → Field
  phase : String → (Decoder → Phase) → Field
  array : String → Limit → (Decoder → List ℕ) → Field

-- The scalars, a word each, in the image's order.
abbrev pub scalars : List Field
scalars =
    number "mask" (bits 16) (λ d. d.plan.mask)
    ∷ number "csr" (bits 8) (λ d. d.plan.csr)
    ∷ number "feen" (bits 8) (λ d. d.plan.feen)
    ∷ number "cnt" (bits 8) (λ d. d.plan.cnt)
    ∷ number "next" whole (λ d. d.next)
    ∷ phase "phase" (λ d. d.recogniser.phase)
    ∷ number "shift" (bits 8) (λ d. d.recogniser.shift)
    ∷ number "command" (bits 8) (λ d. d.recogniser.command)
    ∷ number "address" (bits 8) (λ d. d.recogniser.address)
    ∷ number "count" (bits 32) (λ d. d.recogniser.count)
    ∷ number "held" (bits 32) (λ d. d.recogniser.held)
    ∷ number "group" (bits 8) (λ d. d.recogniser.group)
    ∷ flag "unsteady" (λ d. d.recogniser.unsteady)
    ∷ flag "running" (λ d. d.model.running)
    ∷ number "l1id" (bits 8) (λ d. d.model.counters.l1id)
    ∷ number "base" whole (λ d. d.model.counters.base)
    ∷ flag "wlv1" (λ d. d.model.warnings.wlv1)
    ∷ flag "wfst" (λ d. d.model.warnings.wfst)
    ∷ flag "wslw" (λ d. d.model.warnings.wslw)
    ∷ number "earlier_time" whole (λ d. d.earlier.time)
    ∷ number "earlier_kind" (bits 8) (λ d. d.earlier.kind)
    ∷ []

-- Behind them the arrays.
abbrev pub arrays : List Field
arrays =
    array "registers" (bits 16) (λ d. d.model.registers)
    ∷ array "writes" (bits 8) (λ d. d.model.pointers.writes)
    ∷ array "reads" (bits 8) (λ d. d.model.pointers.reads)
    ∷ []

abbrev pub fields : List Field
fields = scalars ++ arrays

-- Phases are numbered as they follow each other; a flag is 1 where it is set.
abbrev pub phase_number : Phase → ℕ
phase_number Hunt = 0
phase_number Body = 1
phase_number Field3 = 2
phase_number Field4 = 3
phase_number Field5 = 4

abbrev pub phase_of : ℕ → Phase
phase_of n = cond (eqb n 0) Hunt (cond (eqb n 1) Body (cond (eqb n 2) Field3 (cond (eqb n 3) Field4 Field5)))

abbrev pub name_of : Field → String
name_of (number name limit get) = name
name_of (flag name get) = name
name_of (phase name get) = name
name_of (array name limit get) = name

abbrev pub size : Field → ℕ
size (number name limit get) = 1
size (flag name get) = 1
size (phase name get) = 1
size (array name limit get) = 16

abbrev pub limit_of : Field → Limit
limit_of (number name limit get) = limit
limit_of (flag name get) = up_to 1
limit_of (phase name get) = up_to 4
limit_of (array name limit get) = limit

abbrev pub numbers_in : Field → Decoder → List ℕ
numbers_in (number name limit get) d = get d ∷ []
numbers_in (flag name get) d = bool_byte (get d) ∷ []
numbers_in (phase name get) d = phase_number (get d) ∷ []
numbers_in (array name limit get) d = get d

-- The state of its fields' numbers, each by its name: one number, or whether it is set, or all 16.
abbrev pub Numbers : Type 0
Numbers = String → List ℕ

abbrev pub one : List ℕ → ℕ
one ws = get_or ws 0 0

abbrev pub on : List ℕ → Bool
on ws = eqb (one ws) 1

abbrev pub plan_from : Numbers → Plan
plan_from of = record { mask = one (of "mask"); csr = one (of "csr"); feen = one (of "feen"); cnt = one (of "cnt") }

abbrev pub recogniser_from : Phase → Numbers → Recogniser
recogniser_from p of = record {
  phase = p;
  shift = one (of "shift");
  command = one (of "command");
  address = one (of "address");
  count = one (of "count");
  held = one (of "held");
  group = one (of "group");
  unsteady = on (of "unsteady");
}

abbrev pub model_from : List ℕ → Pointers → Numbers → Model
model_from registers pointers of = record {
  running = on (of "running");
  counters = record { l1id = one (of "l1id"); base = one (of "base") };
  warnings = record { wlv1 = on (of "wlv1"); wfst = on (of "wfst"); wslw = on (of "wslw") };
  registers = registers;
  pointers = pointers;
}

abbrev pub earlier_from : Numbers → Earlier
earlier_from of = record { time = one (of "earlier_time"); kind = one (of "earlier_kind") }

abbrev pub state_from : Numbers → Decoder
state_from of = record {
  plan = plan_from of;
  next = one (of "next");
  recogniser = recogniser_from (phase_of (one (of "phase"))) of;
  model = model_from (of "registers") (record { writes = of "writes"; reads = of "reads" }) of;
  earlier = earlier_from of;
}
