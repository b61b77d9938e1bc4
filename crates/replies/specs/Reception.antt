-- A reply as it is received, bit by bit (document 02, F-12): up to the header the last five bits are kept, and behind it what is held of a group.
-- Assumes nothing.
use Rattle.std.specs.Prelude.{Bool, true, false, cond, ◌&&◌, List, [], ◌∷◌, ℕ, ◌+◌, ◌*◌, ◌/◌, ◌%◌, ◌≤◌, eqb}
use Rattle.bits.specs.Bits.{shifted}
use Rattle.groups.specs.Vote.{vote_of}
use Rattle.groups.specs.Received.{held_with, bits_in}
use Rattle.frames.specs.Tray.{stored_of}
use Rattle.replies.specs.Said.{Reply}
use Rattle.replies.specs.Said.{Whole, NoHeader, CutShort}
use Rattle.replies.specs.declared.Reception.{Reception}
use Rattle.replies.specs.Replies.{most_bits}

-- With the buffer that it fills.
pub record Received : Type 0 where
  pub reception : Reception
  pub buffer : List ℕ

abbrev pub received : Reception → List ℕ → Received
received s buffer = record { reception = s; buffer = buffer }

abbrev pub start : ℕ → Reception
start bits = record { total = 8 * bits; window = 0; found = false; group = 0; cycles = 0 }

abbrev pub is_whole : Reception → Bool
is_whole s = s.found && eqb s.cycles s.total

-- Ahead of the header.
abbrev pub hunted_of : Reception → ℕ → Reception
hunted_of s bit =
    let window = shifted 5 s.window bit in
    record { total = s.total; window = window; found = eqb window 0b11101; group = 0; cycles = 0 }

-- Behind it, with what is held of a group then.
abbrev pub onwards : Reception → ℕ → Reception
onwards s group = record { total = s.total; window = s.window; found = true; group = group; cycles = s.cycles + 1 }

-- The eighth cycle of a group decides its bit.
abbrev pub counted_of : Received → ℕ → Received
counted_of r bit =
    let s = r.reception in
    let group = held_with s.group bit in
    cond (eqb (s.cycles % 8) 7)
    (received (onwards s 0) (stored_of r.buffer (s.cycles / 8) (vote_of (bits_in group))))
    (received (onwards s group) r.buffer)

abbrev pub step_of : Received → ℕ → Received
step_of r bit = cond r.reception.found (counted_of r bit) (received (hunted_of r.reception bit) r.buffer)

-- Bits one after the other; those behind a whole reply are not looked at.
unfoldable pub after_of : Received → List ℕ → Received
after_of r [] = r
after_of r (bit ∷ bits) = cond (is_whole r.reception) r (after_of (step_of r bit) bits)

-- What is said if the line ends here.
abbrev pub said_of : Reception → Reply
said_of s = cond s.found (cond (eqb s.cycles s.total) Whole (CutShort (s.cycles / 8))) NoHeader

-- What each reception has.
pub record Fits (s : Reception) : Type 0 where
  pub most : s.total ≤ 8 * most_bits
  pub within : s.cycles ≤ s.total
