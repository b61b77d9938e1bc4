-- A record too close to the one before it (document 02, F-5).
-- Assumes nothing.
use Rattle.std.specs.Prelude.{Bool, cond, not, ◌&&◌, ◌||◌, ℕ, ◌+◌, ◌-◌, ltb, eqb, ℤ, pos, ◌-ℤ◌}
use Rattle.std.specs.Int.Signed.{lt_z}
use Rattle.slow_fields.specs.Slow.{length_of}
use Rattle.records.specs.declared.Cycle.{Cycle}
use Rattle.records.specs.declared.Cycle.TheVariants.{Silent, Recorded}
use Rattle.records.specs.declared.Record.{Record}
use Rattle.records.specs.Records.{record_of, kind_slow}
use Rattle.timing.specs.declared.Earlier.{Earlier}
use Rattle.timing.specs.Table.{is_lv1_kind, zeros_asked}

-- "The state remembers the earlier record": its time and kind, 0 where there is none. No record has kind 0 (`remembered`).
abbrev pub none : Earlier
none = record { time = 0; kind = 0 }

abbrev pub is_none : Earlier → Bool
is_none e = eqb e.kind 0

abbrev pub earlier_of : Record → Earlier
earlier_of r = record { time = r.time; kind = r.kind }

-- "a sound state has that time below its next cycle"
abbrev pub earlier_below : Earlier → ℕ → Bool
earlier_below e cycle = is_none e || ltb e.time cycle

-- "An LV1's first bit is four cycles before its last, a Fast's or bad Fast's eight, and a Slow's or bad Slow's is its header's first, reckoned back by its
-- length": nine bits of header, Fields 3 and 4, and Field 5 by the CNT that it was sent under. A bad Slow, whose kind is 2F, has none.
abbrev pub cycles_back : ℕ → ℕ → ℕ
cycles_back kind cnt = cond (is_lv1_kind kind) 4 (cond (ltb kind (kind_slow 0)) 8 (16 + length_of (kind - kind_slow 0) cnt))

-- The cycle of a command's first bit, by its record's time and kind. It may lie before cycle 0: a sound state may hold a window of bits that no cycle
-- brought.
abbrev pub first_bit : ℕ → ℕ → ℕ → ℤ
first_bit time kind cnt = pos time -ℤ pos (cycles_back kind cnt)

-- "The distance is its first bit's cycle, less the earlier record's time, less 1."
abbrev pub distance_to : Earlier → ℕ → ℕ → ℕ → ℤ
distance_to e time kind cnt = first_bit time kind cnt -ℤ pos e.time -ℤ pos 1

-- "when fewer zeros than the timing table asks lie between it and the recorded command before"; "The first record after opening is never flagged."
unfoldable pub too_close : Earlier → ℕ → ℕ → ℕ → Bool
too_close e time kind cnt = not (is_none e) && lt_z (distance_to e time kind cnt) (pos (zeros_asked e.kind kind))

-- "A record gets flag hexadecimal 20".
abbrev pub flag_too_close : Bool → ℕ
flag_too_close b = cond b 0x20 0

abbrev pub flagged : Earlier → ℕ → Record → Record
flagged e cnt r = record_of r.time r.kind (r.flags + flag_too_close (too_close e r.time r.kind cnt)) r.value

-- What a cycle answers with the flag, and the earlier record after it.
abbrev pub flagged_cycle : Earlier → ℕ → Cycle → Cycle
flagged_cycle e cnt Silent = Silent
flagged_cycle e cnt (Recorded r) = Recorded (flagged e cnt r)

abbrev pub earlier_after : Earlier → Cycle → Earlier
earlier_after e Silent = e
earlier_after e (Recorded r) = earlier_of r
