-- A record by its parts, and as the two words of the list ("A record").
-- Assumes nothing.
use Rattle.std.specs.Prelude.{Bool, cond, ◌&&◌, List, [], ◌∷◌, ℕ, ◌+◌, ◌*◌, ◌/◌, ◌%◌, leb, eqb}
use Rattle.records.specs.declared.Cycle.{Cycle}
use Rattle.records.specs.declared.Cycle.TheVariants.{Silent, Recorded}
use Rattle.records.specs.declared.Record.{Record}

abbrev pub record_of : ℕ → ℕ → ℕ → ℕ → Record
record_of time kind flags value = record { time = time; kind = kind; flags = flags; value = value }

-- "Two 64-bit numbers: time × 65,536 + kind × 256 + flags, then a value".
abbrev pub head_of : Record → ℕ
head_of r = r.time * 65536 + r.kind * 256 + r.flags

abbrev pub record_words : List Record → List ℕ
record_words [] = []
record_words (r ∷ rs) = head_of r ∷ r.value ∷ record_words rs

-- The records of a cycle's answer.
abbrev pub records_of : Cycle → List Record
records_of Silent = []
records_of (Recorded r) = r ∷ []

-- The words that it writes.
abbrev pub words_of : Cycle → List ℕ
words_of c = record_words (records_of c)

-- The kind, off a record's first word.
abbrev pub kind_of : ℕ → ℕ
kind_of head = head / 256 % 256

-- Kinds: "01 LV1; 10 + body for a Fast; 1F bad Fast; 20 + Field 3 for a Slow; 2F bad Slow".
abbrev pub kind_lv1 : ℕ
kind_lv1 = 0x01

abbrev pub kind_fast : ℕ → ℕ
kind_fast body = 0x10 + body

abbrev pub kind_bad_fast : ℕ
kind_bad_fast = 0x1F

abbrev pub kind_slow : ℕ → ℕ
kind_slow command = 0x20 + command

abbrev pub kind_bad_slow : ℕ
kind_bad_slow = 0x2F

-- Flags: "01 acted on, 02 with flip, 04 sent to the front ends .., 08 missing register, 10 an unsteady group". Document 02's flag 20 goes by the earlier
-- record and is added behind the controller (`timing`).
abbrev pub flag_acted : Bool → ℕ
flag_acted b = cond b 0x01 0

abbrev pub flag_flip : Bool → ℕ
flag_flip b = cond b 0x02 0

abbrev pub flag_sent : Bool → ℕ
flag_sent b = cond b 0x04 0

abbrev pub flag_missing : Bool → ℕ
flag_missing b = cond b 0x08 0

abbrev pub flag_unsteady : Bool → ℕ
flag_unsteady b = cond b 0x10 0

-- "a record of kind 24, 25 or 26"
abbrev pub is_frame_head : ℕ → Bool
is_frame_head head = leb 0x24 (kind_of head) && leb (kind_of head) 0x26

-- The frame's count of bits, off its record: "control bits × 65,536 + data bits; WrReceiver, the count of its bits".
abbrev pub frame_bits_of : ℕ → ℕ → ℕ
frame_bits_of kind value = cond (eqb kind 0x26) value (value / 65536 + value % 65536)
