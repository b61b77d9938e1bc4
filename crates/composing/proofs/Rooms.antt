-- Room for two parts is room for each, one after the other.
-- Assumes nothing.
use mathlib.Core.List.{List, ◌++◌}
use mathlib.Core.Path.{◌≡◌, ap}
use Prim.Native.Nat.{ℕ}
use native.Mathlib.Omega.{arith}
use lib.ListN.{length, length-append}
use Rattle.stream_writer.specs.declared.Writer.{Writer}
use Rattle.stream_writer.specs.Writer.{Wrote}
use Rattle.composing.specs.Checked.{Room}

module _ (w : Writer) (out xs ys : List ℕ) (r : Room w out (xs ++ ys)) where
  pub first_room : Room w out xs
  first_room = omega (arith, r, length-append xs ys)

  pub second_room : (v : Writer) (now : List ℕ) → Wrote w out xs v now → Room v now ys
  second_room v now a = omega (arith, r, length-append xs ys, a.place, a.long)

-- For the same bits in other words.
pub room_as : (w : Writer) (out : List ℕ) {xs ys : List ℕ} → ys ≡ xs → Room w out xs → Room w out ys
room_as w out {xs} {ys} e r = omega (arith, r, ap length e)
