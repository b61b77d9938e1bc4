-- The second demand's frames: what the part of the tray holds that the second call hands back (document 01, "What commands do", with the vote of document
-- 02, F-4).
-- Assumes nothing.
use Rattle.std.specs.Prelude.{◌≡◌, Bool, true, false, cond, List, [], ◌∷◌, ◌++◌, ℕ, ◌+◌, ◌*◌, ◌/◌, ◌%◌, ◌<◌, eqb, length, get_or, replicate}
use Rattle.bits.specs.Bits.{bit_of}
use Rattle.groups.specs.Vote.{vote_of, votes_of, some_unsteady}
use Rattle.recogniser.specs.declared.Phase.TheVariants.{Field5}
use Rattle.recogniser.specs.Parts.{start_of}
use Rattle.slow_fields.specs.Slow.{is_frame, length_of}
use Rattle.frames.specs.Tray.{part_of}
use Rattle.records.specs.Records.{kind_of, kind_slow, flag_acted, flag_unsteady, frame_bits_of}
use Rattle.controller.specs.Widths.{ModelFits}
use Rattle.timing.specs.TooClose.{too_close, flag_too_close}
use Rattle.calls.specs.Run.{state_after, words_after}
use Rattle.calls.specs.Turn.{System, cnt_at, turn_of}
use Rattle.calls.specs.Calls.{Part, carried_bits, carried_words, carried_system}

-- How many cycles a frame's bit takes: "WrFrontEnd and RdFrontEnd carry each bit for eight cycles"; "WrReceiver carries one bit a cycle".
abbrev pub cycles_each : ℕ → ℕ
cycles_each command = cond (eqb command 6) 1 8

-- The frame's bits, by those that arrived in Field 5; a front-end bit is the vote of its eight.
abbrev pub frame_bits_in : ℕ → List ℕ → List ℕ
frame_bits_in command field = cond (eqb command 6) field (votes_of (length field / 8) field)

-- The chip paper asks that each bit be kept stable for its eight cycles: of such a group the vote is that bit, as each of its cycles has it.
abbrev pub SteadyVote : Type 0
SteadyVote = (bit : ℕ) → bit < 2 → vote_of (replicate 8 bit) ≡ bit

-- "A group whose eight differ is unsteady"; a WrReceiver has no groups.
abbrev pub unsteady_in : ℕ → List ℕ → Bool
unsteady_in command field = cond (eqb command 6) false (some_unsteady (length field / 8) field)

-- Calls take some bits, cut anywhere: first any bits, behind which Field 5 of a frame begins, then all of Field 5, as long as CNT says there.
pub record Receives (s : System) (bits : List ℕ) (command address : ℕ) (before field : List ℕ) : Type 0 where
  pub frame : is_frame command ≡ true
  pub took : bits ≡ before ++ field
  pub begins : (state_after turn_of s before).recogniser ≡ start_of Field5 0 command address
  pub some : 0 < length field
  pub whole : length field ≡ length_of command (cnt_at (state_after turn_of s before).machine)

-- The second call is "told the frame's count of bits", off its record, and is lent the tray as the calls left it.
abbrev pub count_of : ℕ → ℕ → ℕ
count_of head value = frame_bits_of (kind_of head) value

abbrev pub handed_back : List ℕ → ℕ → ℕ → List ℕ
handed_back tray head value = part_of tray (count_of head value)

-- Whether a record behind some bits, of which its first word is at hand, is too close to the last one of those bits (document 02, F-5).
abbrev pub close_behind : System → List ℕ → ℕ → Bool
close_behind s before head =
    let m = (state_after turn_of s before).machine in
    too_close m.earlier (head / 65536) (kind_of head) (cnt_at m)

-- Behind the records of the bits ahead of Field 5 the calls write one, the frame's, with the time of its last bit, flag 10 where a group was unsteady, flag
-- 20 where it is too close to the earlier record, and the count of its bits. The part handed back has as many bytes as they need; each of its bits,
-- "highest bit first", is the frame's at that place, and 0 beyond the frame's last.
pub record HandsBack (s : System) (words tray : List ℕ) (command : ℕ) (before field : List ℕ) : Type 0 where
  pub head : ℕ
  pub value : ℕ
  pub written : words ≡ words_after turn_of s before ++ (head ∷ value ∷ [])
  pub kind : kind_of head ≡ kind_slow command
  pub flags : head % 256 ≡ flag_acted true + flag_unsteady (unsteady_in command field) + flag_too_close (close_behind s before head)
  pub time : head / 65536 + 1 ≡ s.machine.next + length before + length field
  pub count : count_of head value * cycles_each command ≡ length field
  pub bytes : length (handed_back tray head value) ≡ (count_of head value + 7) / 8
  pub bits : (i : ℕ) → i < 8 * length (handed_back tray head value) → bit_of (handed_back tray head value) i ≡ get_or (frame_bits_in command field) i 0

-- State, store and tray are carried over from call to call, whatever the tray holds at first.
abbrev pub Frames : Type 0
Frames =
    (s : System) (ps : List Part) (command address : ℕ) (before field : List ℕ) → ModelFits s.machine.model
    → Receives s (carried_bits s ps) command address before field
    → HandsBack s (carried_words s ps) (carried_system s ps).machine.tray command before field

-- "A Field 5 of length 0 ends with Field 4": such a frame has 0 bits, and the part handed back is the empty one.
abbrev pub EmptyFrame : Type 0
EmptyFrame = (tray : List ℕ) → part_of tray 0 ≡ []
