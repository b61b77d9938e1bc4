-- The recogniser's part of a sound state (document 01, "A taking call"; document 02, F-4).
-- Assumes nothing.
use Rattle.std.specs.Prelude.{Bool, true, cond, ◌&&◌, ◌||◌, ℕ, ◌%◌, ◌^◌, ltb, leb, eqb}
use Rattle.groups.specs.Received.{left_by_some}
use Rattle.recogniser.specs.declared.Phase.{Phase}
use Rattle.recogniser.specs.declared.Phase.TheVariants.{Hunt, Body, Field3, Field4, Field5}
use Rattle.recogniser.specs.declared.Recogniser.{Recogniser}
use Rattle.slow_fields.specs.Slow.{length_of}

-- "Inside Field 5 the command is one that has it": 0 to 6 and 10.
abbrev pub has_field5 : ℕ → Bool
has_field5 command = leb command 6 || eqb command 10

-- The commands that keep the bits of Field 5 as a number: WrRegister, WrFifo, GlobalResetFE. Of other commands' numbers nothing is asked.
abbrev pub keeps : ℕ → Bool
keeps command = eqb command 0 || (eqb command 2 || eqb command 10)

-- A body, Field 3 or Field 4: the bits received are fewer than four, and "the bits held so far fit their widths".
abbrev pub nibble_fits : Recogniser → Bool
nibble_fits r = ltb r.count 4 && ltb r.shift (2 ^ r.count)

abbrev pub field4_fits : Recogniser → Bool
field4_fits r = nibble_fits r && ltb r.command 16

abbrev pub held_fits : Recogniser → Bool
held_fits r = cond (keeps r.command) (ltb r.held (2 ^ r.count)) true

-- WrFrontEnd and RdFrontEnd carry each bit for eight cycles. "What is held of an unfinished group is what some bits, as many as its cycles received, would
-- leave" (document 02, F-4): those cycles are count % 8, none between two groups. Of other commands' groups nothing is asked.
abbrev pub has_groups : ℕ → Bool
has_groups command = eqb command 4 || eqb command 5

abbrev pub group_fits : Recogniser → Bool
group_fits r = cond (has_groups r.command) (left_by_some (r.count % 8) r.group) true

-- "The bits received of .. Field 5 are fewer than its length, the variable ones by the present CNT."
abbrev pub field5_fits : Recogniser → ℕ → Bool
field5_fits r cnt =
    has_field5 r.command
    && (ltb r.address 16 && (ltb r.count (length_of r.command cnt) && (held_fits r && group_fits r)))

abbrev pub fit_by : Phase → Recogniser → ℕ → Bool
fit_by Hunt r cnt = ltb r.shift 32
fit_by Body r cnt = nibble_fits r
fit_by Field3 r cnt = nibble_fits r
fit_by Field4 r cnt = field4_fits r
fit_by Field5 r cnt = field5_fits r cnt

-- A recogniser that a sound state may hold, by CNT as it stands.
unfoldable pub fit_of : Recogniser → ℕ → Bool
fit_of r cnt = fit_by r.phase r cnt
