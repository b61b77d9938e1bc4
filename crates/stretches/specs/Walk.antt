-- Walks: where one may go, and a stretch with the place behind it (document 02, F-3).
-- Assumes nothing.
use Rattle.std.specs.Prelude.{ℕ, ◌+◌, ◌*◌, ◌<◌, ◌≤◌}
use Rattle.limits.specs.Limits.{input_limit}
use Rattle.bits.specs.declared.Cursor.{Cursor}
use Rattle.bits.specs.Place.{cursor_at, place_under}
use Rattle.stretches.specs.declared.Stretch.{Stretch}
use Rattle.stretches.specs.declared.Walk.{Walk}

-- So many bits from a cursor on lie in an input of so many bytes, which is not too long.
abbrev pub Reaches : Cursor → ℕ → ℕ → Type 0
Reaches from count bytes = (from.bit < 8) × (place_under from + count ≤ 8 * bytes) × (bytes ≤ input_limit)

-- A stretch walked from a cursor.
abbrev pub walk_of : Cursor → Stretch → Walk
walk_of from s = record { stretch = s; behind = cursor_at (place_under from + s.taken) }
