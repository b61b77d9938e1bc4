-- What a walk says: its stretch, and that the cursor stands behind it.
-- Assumes nothing.
use mathlib.Core.Path.{◌≡◌, refl, ap}
use Prim.Native.Nat.{ℕ, ◌+◌}
use native.Mathlib.Omega.{arith}
use Rattle.bits.specs.declared.Cursor.{Cursor}
use Rattle.bits.specs.Place.{cursor_at, place_under}
use Rattle.bits.proofs.Places.{Stands, stands}
use Rattle.stretches.specs.declared.Stretch.{Stretch}
use Rattle.stretches.specs.declared.Walk.{Walk}
use Rattle.stretches.specs.Walk.{walk_of}

module _ (from : Cursor) {w : Walk} {s : Stretch} (e : w ≡ walk_of from s) where
  pub walk_stretch : w.stretch ≡ s
  walk_stretch = ap (λ (v : Walk). v.stretch) e

  pub walk_behind : (place : ℕ) → Stands from place → Stands w.behind (place + w.stretch.taken)
  walk_behind place b =
      let d : Stands (cursor_at (place_under from + s.taken)) (place_under from + s.taken) = stands refl in
      rw e (record { inside = d.inside; under = omega (arith, b, d) })
