-- A place of the input as byte and bit (document 02, F-3); the bit's place in its byte counts down, as its weight does.
-- Assumes nothing.
use Rattle.std.specs.Prelude.{ℕ, ◌+◌, ◌*◌, ◌-◌, ◌/◌, ◌%◌}
use Rattle.bits.specs.declared.Cursor.{Cursor}

-- The cursor at a place.
abbrev pub cursor_at : ℕ → Cursor
cursor_at place = record { byte = place / 8; bit = 7 - place % 8 }

-- The place that a cursor stands for, whose bit is below 8.
abbrev pub place_under : Cursor → ℕ
place_under c = 8 * c.byte + (7 - c.bit)
