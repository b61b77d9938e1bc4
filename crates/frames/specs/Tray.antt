-- The tray, document 01's term for the buffer of frame bits ("What commands do").
-- Assumes nothing.
use Rattle.std.specs.Prelude.{◌≡◌, cond, List, [], ◌∷◌, ℕ, ◌+◌, ◌*◌, ◌-◌, ◌/◌, ◌%◌, ◌^◌, ◌<◌, leb, eqb, length, get_or, set, take}
use Rattle.bits.specs.Bits.{bit_of}
use Rattle.recogniser.specs.declared.FrameBit.{FrameBit}
use Rattle.recogniser.specs.declared.FrameBit.TheVariants.{None, At}

-- A byte in which the bit at a place, counted from the highest, is the frame's bit.
abbrev pub with_bit : ℕ → ℕ → ℕ → ℕ
with_bit byte place bit =
    let weight = 2 ^ (7 - place) in
    byte - byte / weight % 2 * weight + cond (eqb bit 1) weight 0

-- "Frame bits fill the tray from byte 0, highest bit first; a byte is zeroed as its first bit arrives": of a front-end frame in its group's eighth cycle, in
-- which it is stored (document 02, F-4).
abbrev pub stored_of : List ℕ → ℕ → ℕ → List ℕ
stored_of tray place bit =
    let byte = cond (eqb (place % 8) 0) 0 (get_or tray (place / 8) 0) in
    set tray (place / 8) (with_bit byte (place % 8) bit)

-- The tray with a frame's bits stored one after another, from a place on.
abbrev pub filled_of : ℕ → List ℕ → List ℕ → List ℕ
filled_of place tray [] = tray
filled_of place tray (bit ∷ bits) = filled_of (place + 1) (stored_of tray place bit) bits

-- What a cycle's frame bit does to the tray.
unfoldable pub tray_of : List ℕ → FrameBit → List ℕ
tray_of tray None = tray
tray_of tray (At place bit) = stored_of tray place bit

-- "The frame is handed back as the part of the tray that it fills"; "a count beyond the tray's bits gives the empty part".
abbrev pub part_of : List ℕ → ℕ → List ℕ
part_of tray bits = cond (leb bits (8 * length tray)) (take ((bits + 7) / 8) tray) []

-- A part that holds a frame's bits: its bytes, and each of their bits, 0 beyond the frame's last.
pub record PartHolds (frame part : List ℕ) : Type 0 where
  pub long : length part ≡ (length frame + 7) / 8
  pub bits : (i : ℕ) → i < 8 * length part → bit_of part i ≡ get_or frame i 0
