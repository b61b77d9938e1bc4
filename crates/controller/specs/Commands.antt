-- What Slow commands do, and their records; and what each request does (document 01, "What commands do" and "A record").
-- Assumes nothing.
use Rattle.std.specs.Prelude.{Bool, true, false, cond, List, ℕ, ◌+◌, ◌*◌, ◌%◌, ◌^◌, eqb, get_or, set}
use Rattle.slow_fields.specs.Slow.{data_bits, control_bits, receiver_bits}
use Rattle.recogniser.specs.declared.SlowRequest.{SlowRequest}
use Rattle.recogniser.specs.declared.SlowRequest.TheVariants.{LeaveRunMode, Command, Bad, Frame}
use Rattle.recogniser.specs.declared.Request.{Request}
use Rattle.recogniser.specs.declared.Request.TheVariants.{Nothing, Lv1, Fast, BadFast, Slow}
use Rattle.records.specs.declared.Cycle.TheVariants.{Silent}
use Rattle.records.specs.declared.Record.{Record}
use Rattle.records.specs.Records.{record_of, kind_slow, kind_bad_slow, flag_acted, flag_missing, flag_unsteady}
use Rattle.plans.specs.declared.Plan.{Plan}
use Rattle.registers.specs.declared.Model.{Model}
use Rattle.plans.specs.Plan.{exists_at}
use Rattle.registers.specs.Registers.{cnt_of, feen_of, read_of, written_of}
use Rattle.registers.specs.Parts.{warnings, pointers, cleared, with_running, with_warnings, with_registers, with_pointers}
use Rattle.fifos.specs.Fifos.{moved_on, write_of, read_word_of}
use Rattle.triggers.specs.declared.Acted.{Acted}
use Rattle.triggers.specs.Triggers.{acted, recorded, lv1_of, fast_of, bad_fast_of}

-- "RunMode ends at the ninth header bit of any Slow".
abbrev pub leave_of : Model → Acted
leave_of m = acted (with_running false m) Silent

-- The record of a Slow command.
abbrev pub slow_record : ℕ → ℕ → ℕ → ℕ → Record
slow_record time command flags value = record_of time (kind_slow command) flags value

-- "WrRegister to a missing address changes nothing". The value holds "the 16 bits that arrived".
abbrev pub write_register_of : Plan → Model → ℕ → ℕ → ℕ → Acted
write_register_of plan m address value time =
    let bits = value % 2 ^ 16 in
    cond (exists_at plan address)
    (recorded (with_registers (written_of plan m address bits) m) (slow_record time 0 (flag_acted true) (address * 65536 + bits)))
    (recorded m (slow_record time 0 (flag_missing true) (address * 65536 + bits)))

-- "RdRegister of one gives 0."
abbrev pub read_register_of : Plan → Model → ℕ → ℕ → Acted
read_register_of plan m address time =
    cond (exists_at plan address)
    (recorded m (slow_record time 1 (flag_acted true) (address * 65536 + read_of plan m address)))
    (recorded m (slow_record time 1 (flag_missing true) (address * 65536)))

-- The model and the store after a command.
pub record Effect : Type 0 where
  pub acted : Acted
  pub store : List ℕ

abbrev pub effect : Acted → List ℕ → Effect
effect a store = record { acted = a; store = store }

-- "WrFifo writes at the write pointer of each FIFO whose bit in FEEN is 1" a word of 27 bits.
abbrev pub write_fifo_of : Plan → Model → ℕ → ℕ → List ℕ → Effect
write_fifo_of plan m value time store =
    let word = value % 2 ^ 27 in
    let f = write_of 16 0 (feen_of plan m) word (record { writes = m.pointers.writes; store = store }) in
    effect (recorded (with_pointers (pointers f.writes m.pointers.reads) m) (slow_record time 2 (flag_acted true) word)) f.store

-- "RdFifo takes the low 27 bits at the read pointer of FIFO Field 4, then moves it on." Field 4 has four bits.
abbrev pub read_fifo_of : Model → ℕ → ℕ → List ℕ → Acted
read_fifo_of m address time store =
    let n = address % 16 in
    let pointer = get_or m.pointers.reads n 0 in
    recorded (with_pointers (pointers m.pointers.writes (set m.pointers.reads n (moved_on pointer))) m)
    (slow_record time 3 (flag_acted true) (n * 2 ^ 27 + read_word_of store n pointer))

-- RunMode "starts at the end of EnDataTake".
abbrev pub enable_of : Model → ℕ → Acted
enable_of m time = recorded (with_running true m) (slow_record time 8 (flag_acted true) 0)

-- "GlobalResetMCC sets registers, pointers, L1ID and warnings to 0", and moves the base.
abbrev pub reset_of : Model → ℕ → Acted
reset_of m time = recorded (cleared m.running time) (slow_record time 9 (flag_acted true) 0)

-- "GlobalResetFE, SyncW × 2 + 1, where SyncW is Field 5".
abbrev pub reset_front_ends_of : Model → ℕ → ℕ → Acted
reset_front_ends_of m value time = recorded m (slow_record time 10 (flag_acted true) (value % 2 ^ 4 * 2 + 1))

-- A bad Slow sets WSLW; its value is Field 3.
abbrev pub bad_slow_of : Model → ℕ → ℕ → Acted
bad_slow_of m command time =
    let w = m.warnings in
    recorded (with_warnings (warnings w.wlv1 w.wfst true) m) (record_of time kind_bad_slow 0 command)

-- "front-end frames, control bits × 65,536 + data bits; WrReceiver, the count of its bits"
abbrev pub frame_value_of : ℕ → ℕ → ℕ
frame_value_of command cnt =
    cond (eqb command 6) (receiver_bits cnt) (control_bits cnt * 65536 + data_bits cnt)

abbrev pub frame_of : Plan → Model → ℕ → Bool → ℕ → Acted
frame_of plan m command unsteady time =
    recorded m (slow_record time command (flag_acted true + flag_unsteady unsteady) (frame_value_of command (cnt_of plan m)))

-- A Slow command that carries no frame, by Field 3.
abbrev pub command_of : Plan → Model → ℕ → ℕ → ℕ → ℕ → List ℕ → Effect
command_of plan m command address value time store =
    cond (eqb command 0) (effect (write_register_of plan m address value time) store)
    (cond (eqb command 1) (effect (read_register_of plan m address time) store)
    (cond (eqb command 2) (write_fifo_of plan m value time store)
    (cond (eqb command 3) (effect (read_fifo_of m address time store) store)
    (cond (eqb command 8) (effect (enable_of m time) store)
    (cond (eqb command 9) (effect (reset_of m time) store)
    (effect (reset_front_ends_of m value time) store))))))

-- What a cycle of a Slow command does.
abbrev pub slow_of : Plan → Model → SlowRequest → ℕ → List ℕ → Effect
slow_of plan m LeaveRunMode time store = effect (leave_of m) store
slow_of plan m (Command command address value) time store = command_of plan m command address value time store
slow_of plan m (Bad command) time store = effect (bad_slow_of m command time) store
slow_of plan m (Frame command unsteady) time store = effect (frame_of plan m command unsteady time) store

-- What a request does in its cycle.
unfoldable pub act_of : Plan → Model → Request → ℕ → List ℕ → Effect
act_of plan m Nothing time store = effect (acted m Silent) store
act_of plan m (Lv1 position) time store = effect (lv1_of plan m position time) store
act_of plan m (Fast body) time store = effect (fast_of m body time) store
act_of plan m (BadFast body) time store = effect (bad_fast_of m body time) store
act_of plan m (Slow slow) time store = slow_of plan m slow time store
