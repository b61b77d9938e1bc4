-- The output's room, and counts of bits that are cut off beyond the clock's.
-- Assumes nothing.
use mathlib.Core.Bool.{Bool, true, false}
use mathlib.Core.List.{List}
use mathlib.Core.Path.{◌≡◌, refl}
use Prim.Native.Nat.{ℕ, ◌+◌, ◌*◌, ◌≤◌, ◌<◌}
use native.Mathlib.Omega.{arith}
use lib.Dec.{leb}
use borrow.Author.Tests.{le-leb, leb-true, leb-false}
use Rattle.limits.specs.Limits.{clock_limit}
use Rattle.bits.proofs.Truth.{both, clash, choice}
use Rattle.orders.specs.Composing.{room_fits}
use Rattle.composing.specs.Checked.{capped}
use Rattle.compositions.specs.Compositions.{output_limit, too_long, end_of}

pub has_room : (n : ℕ) → room_fits n output_limit ≡ true → n ≤ 8388608
has_room n e = leb-true n (8 * output_limit) (both (leb n clock_limit) (leb n (8 * output_limit)) e).1

pub gives_room : (n : ℕ) → n ≤ 8388608 → room_fits n output_limit ≡ true
gives_room n h = simp (le-leb n clock_limit (omega arith), le-leb n (8 * output_limit) h)

pub no_room : (n : ℕ) → room_fits n output_limit ≡ false → 8388608 < n
no_room n e = by (leb n 8388608) refl
  where
    by : (b : Bool) → leb n 8388608 ≡ b → 8388608 < n
    by true h = clash (gives_room n (leb-true n 8388608 h)) e
    by false h = leb-false n 8388608 h

pub beyond : (n : ℕ) (out : List ℕ) → 8388608 < n → end_of n out ≡ too_long
beyond n out h = by (room_fits n output_limit) refl
  where
    by : (b : Bool) → room_fits n output_limit ≡ b → end_of n out ≡ too_long
    by true e = absurd (omega (arith, has_room n e))
    by false e = rw e

-- A count that is cut off is no greater, and within the room it is whole.
pub capped_least : (n : ℕ) → capped n ≤ n
capped_least n = choice (λ (m : ℕ). m ≤ n) (leb n clock_limit) (λ _. omega arith) (λ f. omega (arith, leb-false n clock_limit f))

pub capped_whole : (n : ℕ) → capped n ≤ 8388608 → capped n ≡ n
capped_whole n h = by (leb n clock_limit) refl
  where
    by : (b : Bool) → leb n clock_limit ≡ b → capped n ≡ n
    by true e = rw e
    by false e = let z : capped n ≡ clock_limit + 1 = rw e in absurd (omega (arith, z))
