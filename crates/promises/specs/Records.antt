-- The second demand: the records, registers, FIFO words, counters and frames, wherever the stream is cut into calls.
-- That the calls answer and leave what their definitions say is in the contracts of `start`, `take` and `frame_part`; here is what follows for cuts,
-- endings and soundness.
-- Assumes nothing.
use Rattle.std.specs.Prelude.{◌≡◌, List, [], ◌∷◌, ℕ, suc, ◌+◌, ◌*◌, ◌-◌, ◌<◌, ◌≤◌, T, length, take}
use Rattle.plans.specs.declared.Plan.{Plan}
use Rattle.decoder.specs.declared.Decoder.{Decoder}
use Rattle.limits.specs.Limits.{list_unit}
use Rattle.decoder.specs.Opening.{open_of}
use Rattle.decoder.specs.Sound.{sound_of}
use Rattle.controller.specs.Widths.{ModelFits, WordsFit}
use Rattle.calls.specs.declared.Ending.TheVariants.{Done, Frame, ListFull}
use Rattle.calls.specs.Run.{NoFrames, LastIsFrame, state_after, words_after}
use Rattle.calls.specs.Turn.{System, turn_of}
use Rattle.calls.specs.Take.{Call, offered, lent, taken_of, take_of}
use Rattle.calls.specs.Calls.{bits_taken, words_standing, all_words, system_after, Part, carried_bits, carried_words, carried_system}
use Rattle.layout.specs.ListingLines.{record_line}
use Rattle.promises.specs.Frames.{Frames, SteadyVote, EmptyFrame}

-- A call, refused or not, leaves and writes what the bits that it took say, cycle by cycle: none missing and none added.
pub record Exact (d : Decoder) (c : Call) : Type 0 where
  pub state : system_after (take_of d c) ≡ state_after turn_of (lent d c) (bits_taken d c)
  pub words : words_standing d c ≡ words_after turn_of (lent d c) (bits_taken d c)

-- The words of the records that a call has written once it has taken so many bits.
abbrev pub written_by : Decoder → Call → ℕ → List ℕ
written_by d c bits = words_after turn_of (lent d c) (take bits (offered c))

-- A call goes on to a further bit only where no record so far is a frame's, and two words are free: at a frame's record, and with fewer words free, "it
-- stops at once".
pub record GoesOn (words : List ℕ) (room : ℕ) : Type 0 where
  pub no_frame : NoFrames words
  pub two_free : length words + list_unit ≤ room

-- 'frame' "after a record of kind 24, 25 or 26, where it stops at once": the call's last record is a frame's, and no earlier one is. The earlier ones, and
-- no others, had been written ahead of the last bit taken: this bit wrote the frame's.
pub record StopsAtFrame (d : Decoder) (c : Call) (bits : ℕ) : Type 0 where
  pub last_record : LastIsFrame (written_by d c bits)
  pub ahead : ℕ
  pub last_bit : bits ≡ suc ahead
  pub by_last_bit : last_record.before ≡ written_by d c ahead

-- Each ending of a call that is not refused has its condition: "'done' .. with every bit of its count taken", 'list full' "when bits remain and fewer than
-- two words are free", and 'frame' as above; no record is a frame's where the call ends otherwise. Ahead of each bit taken the call could go on.
pub record Ends (d : Decoder) (c : Call) : Type 0 where
  pub done : (taken_of d c).taken.report.ending ≡ Done → (taken_of d c).taken.report.bits ≡ c.count
  pub full : (taken_of d c).taken.report.ending ≡ ListFull
      → ((taken_of d c).taken.report.bits < c.count) × (length c.list - c.free - list_unit * (taken_of d c).taken.report.records < list_unit)
  pub frame : (taken_of d c).taken.report.ending ≡ Frame → StopsAtFrame d c (taken_of d c).taken.report.bits
  pub no_frame : ((taken_of d c).taken.report.ending ≡ Frame → ⊥) → NoFrames (written_by d c (taken_of d c).taken.report.bits)
  pub at_once : (n : ℕ) → n < (taken_of d c).taken.report.bits → GoesOn (written_by d c n) (length c.list - c.free)

-- Two lists of calls from one state, store and tray carried over, refused calls among them: where the bits taken join to the same stream, so do the
-- records, and the state, store and tray at the end are the same.
abbrev pub Cuts : System → Type 0
Cuts s =
    (ps qs : List Part) → carried_bits s ps ≡ carried_bits s qs
    → (carried_words s ps ≡ carried_words s qs) × (carried_system s ps ≡ carried_system s qs)

-- Of words that fit, a record's line loses nothing: equal lines, "time (12 digits), kind (2), flags (2), value (8)", come from equal words.
abbrev pub LinesTell : Type 0
LinesTell =
    (head value head' value' : ℕ) → WordsFit (head ∷ value ∷ []) → WordsFit (head' ∷ value' ∷ [])
    → record_line head value ≡ record_line head' value' → (head ≡ head') × (value ≡ value')

pub record SecondDemand : Type 0 where
  pub exact : (d : Decoder) (c : Call) → Exact d c
  pub ends : (d : Decoder) (c : Call) → Ends d c
  pub cuts : (s : System) → Cuts s
  -- After 'frame' the second call hands back the frame's bits, wherever the stream was cut into calls.
  pub frames : Frames
  pub steady_vote : SteadyVote
  pub empty_frame : EmptyFrame
  -- Opening gives a sound state, and a sound state stays sound.
  pub opens_sound : (plan : Plan) (cycle : ℕ) → T (sound_of (open_of plan cycle).decoder)
  pub stays_sound : (d : Decoder) (c : Call) → T (sound_of d) → T (sound_of (take_of d c).taken.decoder)
  -- Each record that a list of calls writes from a sound state has its time below 2^48 and "a value below 2^32". Registers and L1ID fit their widths by the
  -- types of a program.
  pub fits : (d : Decoder) (cs : List Call) → T (sound_of d) → ModelFits d.model → WordsFit (all_words d cs)
  pub lines_tell : LinesTell
