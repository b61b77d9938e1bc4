-- A taking call: what it is lent, when it is rejected, what it answers and what its buffers hold then (document 01, "A taking call").
-- Assumes nothing.
use Rattle.std.specs.Prelude.{Bool, cond, not, ◌&&◌, List, ℕ, ◌+◌, ◌-◌, ◌/◌, leb, eqb, length}
use Rattle.std.proofs.lemmas.List.Edits.{sets}
use Rattle.bits.specs.Bits.{bits_of}
use Rattle.bits.specs.Range.{range_fits_within}
use Rattle.recogniser.specs.declared.Recogniser.{Recogniser}
use Rattle.registers.specs.declared.Model.{Model}
use Rattle.timing.specs.declared.Earlier.{Earlier}
use Rattle.decoder.specs.declared.Decoder.{Decoder}
use Rattle.limits.specs.Limits.{clock_limit, store_length, tray_length, list_unit, input_limit}
use Rattle.decoder.specs.Sound.{sound_of}
use Rattle.calls.specs.declared.Taken.{Taken}
use Rattle.calls.specs.declared.Ending.{Ending}
use Rattle.calls.specs.declared.Ending.TheVariants.{Done, Frame, ListFull, Unsound, WrongBuffers, WrongRange, ClockOver}
use Rattle.calls.specs.Run.{Run, run_of}
use Rattle.calls.specs.Turn.{System, system_of, decoder_of, turn_of}

-- "It is lent input, a first bit and a bit count; a FIFO store ..; a tray ..; a record list and the number of its first free word."
pub record Call : Type 0 where
  pub input : List ℕ
  pub first : ℕ
  pub count : ℕ
  pub store : List ℕ
  pub tray : List ℕ
  pub list : List ℕ
  pub free : ℕ

abbrev pub call : List ℕ → ℕ → ℕ → List ℕ → List ℕ → List ℕ → ℕ → Call
call input first count store tray list free =
    record { input = input; first = first; count = count; store = store; tray = tray; list = list; free = free }

-- The bits of the call's range.
abbrev pub offered : Call → List ℕ
offered c = bits_of c.input c.first c.count

-- Number 4 does not apply, by the lengths of store, tray and list, and the first free word: it is not past the list's end.
abbrev pub buffers_fit : ℕ → ℕ → ℕ → ℕ → Bool
buffers_fit store tray list free = eqb store store_length && (eqb tray tray_length && leb free list)

-- Number 6 does not apply, by the next cycle and the count.
abbrev pub clock_fits : ℕ → ℕ → Bool
clock_fits next count = leb (next + count) clock_limit

-- The answer, and each buffer's later contents.
pub record CallResult : Type 0 where
  pub taken : Taken
  pub store : List ℕ
  pub tray : List ℕ
  pub list : List ℕ

abbrev pub call_result : Taken → List ℕ → List ℕ → List ℕ → CallResult
call_result taken store tray list = record { taken = taken; store = store; tray = tray; list = list }

-- A state with what a call tells of itself.
abbrev pub taken_with : Decoder → ℕ → ℕ → Ending → Taken
taken_with d bits records ending = record { decoder = d; report = record { bits = bits; records = records; ending = ending } }

-- A decoder after so many cycles, with its recogniser, its model and the earlier record then.
abbrev pub decoder_after : Decoder → Recogniser → Model → Earlier → ℕ → Decoder
decoder_after d r m earlier taken = record { plan = d.plan; next = d.next + taken; recogniser = r; model = m; earlier = earlier }

-- "a refused taking gives 0 bits, 0 records and the state and buffers it came with"
abbrev pub refused : Decoder → Call → Ending → CallResult
refused d c ending = call_result (taken_with d 0 0 ending) c.store c.tray c.list

-- A run as a call answers it: the words stand in the list from its first free word on, and "list, tray and store change nowhere else".
abbrev pub finished : ℕ → ℕ → List ℕ → ℕ → Run System → CallResult
finished bits records list free r =
    call_result (taken_with (decoder_of r.state) (bits + r.bits) (records + length r.words / list_unit) r.ending)
    r.state.machine.store r.state.machine.tray (sets list free r.words)

-- The state with the store and the tray that the call is lent.
abbrev pub lent : Decoder → Call → System
lent d c = system_of d c.store c.tray

-- A call that is not refused.
unfoldable pub taken_of : Decoder → Call → CallResult
taken_of d c = finished 0 0 c.list c.free (run_of turn_of (offered c) (lent d c) (length c.list - c.free))

-- "The lowest number wins". The bytes that an input may have are a parameter here, so that a promise can speak of another limit.
abbrev pub take_within : ℕ → Decoder → Call → CallResult
take_within limit d c =
    cond (not (sound_of d)) (refused d c Unsound)
    (cond (not (buffers_fit (length c.store) (length c.tray) (length c.list) c.free)) (refused d c WrongBuffers)
    (cond (not (range_fits_within limit (length c.input) c.first c.count)) (refused d c WrongRange)
    (cond (not (clock_fits d.next c.count)) (refused d c ClockOver)
    (taken_of d c))))

-- The taking call, with the limit of document 02, F-6.
unfoldable pub take_of : Decoder → Call → CallResult
take_of = take_within input_limit

-- The refusal number of each ending; 0 is none.
abbrev pub ending_number : Ending → ℕ
ending_number Done = 0
ending_number Frame = 0
ending_number ListFull = 0
ending_number Unsound = 3
ending_number WrongBuffers = 4
ending_number WrongRange = 5
ending_number ClockOver = 6
