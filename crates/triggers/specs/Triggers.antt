-- What an LV1, a Fast and a bad Fast do, and their records (document 01, "What commands do" and "A record"; document 02, F-1).
-- Assumes nothing.
use Rattle.std.specs.Prelude.{Bool, true, cond, ◌&&◌, ◌||◌, ℕ, ◌+◌, ◌*◌, ◌-◌, ◌/◌, ◌%◌, ◌^◌, ltb, eqb}
use Rattle.records.specs.declared.Cycle.{Cycle}
use Rattle.records.specs.declared.Cycle.TheVariants.{Recorded}
use Rattle.records.specs.declared.Record.{Record}
use Rattle.records.specs.Records.{record_of, kind_lv1, kind_fast, kind_bad_fast, flag_acted, flag_flip, flag_sent}
use Rattle.plans.specs.declared.Plan.{Plan}
use Rattle.registers.specs.declared.Counters.{Counters}
use Rattle.registers.specs.declared.Pointers.{Pointers}
use Rattle.registers.specs.declared.Model.{Model}
use Rattle.registers.specs.Registers.{register_of}
use Rattle.registers.specs.Parts.{counters, warnings, zero_pointers, with_counters, with_warnings, with_pointers}
use Rattle.triggers.specs.declared.Acted.{Acted}

abbrev pub acted : Model → Cycle → Acted
acted m cycle = record { model = m; cycle = cycle }

abbrev pub recorded : Model → Record → Acted
recorded m r = acted m (Recorded r)

-- "The bunch number is the cycle less the base cycle, modulo 256."
abbrev pub bunch_of : Counters → ℕ → ℕ
bunch_of c time = (time - c.base) % 256

-- "LV1, in RunMode: reports L1ID and the bunch number, then adds 1 to L1ID, modulo 256." L1ID has eight bits, so that "modulo 256" changes none here; it
-- leaves the digits above to the position, whatever a state holds.
abbrev pub lv1_value : Counters → ℕ → ℕ
lv1_value c time = c.l1id % 256 * 256 + bunch_of c time

abbrev pub lv1_counted : Counters → Counters
lv1_counted c = counters ((c.l1id + 1) % 256) c.base

-- Whether CSR lets an LV1 be sent to the front ends: "acted on while CSR bit 6 is 0".
abbrev pub sends_of : Plan → Model → Bool
sends_of plan m = eqb (register_of m plan.csr / 2 ^ 6 % 2) 0

-- "With flip": an LV1 whose position is not 0.
abbrev pub has_flip : ℕ → Bool
has_flip position = ltb 0 position

-- The record, in RunMode or out of it, by whether CSR lets it be sent; one that is not acted on is not sent. Document 02, F-1: "the record's value gains
-- position × 65,536, also when the LV1 is not acted on."
abbrev pub lv1_record : Bool → ℕ → Bool → Counters → ℕ → Record
lv1_record running position sends c time =
    record_of time kind_lv1
    (flag_acted running + flag_flip (has_flip position) + flag_sent (running && sends))
    (position * 65536 + cond running (lv1_value c time) 0)

-- A flip sets WLV1 "in and out of RunMode".
abbrev pub lv1_of : Plan → Model → ℕ → ℕ → Acted
lv1_of plan m position time =
    let w = m.warnings in
    let warned = with_warnings (warnings (w.wlv1 || has_flip position) w.wfst w.wslw) m in
    recorded
    (with_counters (cond m.running (lv1_counted m.counters) m.counters) warned)
    (lv1_record m.running position (sends_of plan m) m.counters time)

-- "BCR, in RunMode, moves the base. ECR, in RunMode, sets L1ID and all FIFO pointers to 0." CAL and SYNC change nothing here.
abbrev pub fast_counted : ℕ → ℕ → Counters → Counters
fast_counted body time c = counters (cond (eqb body 0b0010) 0 c.l1id) (cond (eqb body 0b0001) time c.base)

abbrev pub fast_pointers : ℕ → Pointers → Pointers
fast_pointers body p = cond (eqb body 0b0010) zero_pointers p

abbrev pub fast_effect : Model → ℕ → ℕ → Model
fast_effect m body time = with_counters (fast_counted body time m.counters) (with_pointers (fast_pointers body m.pointers) m)

abbrev pub fast_record : Bool → ℕ → ℕ → Record
fast_record running body time = record_of time (kind_fast body) (flag_acted running) 0

abbrev pub fast_of : Model → ℕ → ℕ → Acted
fast_of m body time = recorded (cond m.running (fast_effect m body time) m) (fast_record m.running body time)

-- A bad Fast sets WFST and is never acted on.
abbrev pub bad_fast_record : ℕ → ℕ → Record
bad_fast_record body time = record_of time kind_bad_fast 0 body

abbrev pub bad_fast_of : Model → ℕ → ℕ → Acted
bad_fast_of m body time =
    let w = m.warnings in
    recorded (with_warnings (warnings w.wlv1 true w.wslw) m) (bad_fast_record body time)
