-- `position` is the place where an LV1 differs from the exact one, pattern by pattern.
-- Assumes nothing.
use mathlib.Core.Path.{◌≡◌, refl}
use Prim.Native.Nat.{ℕ, ◌-◌, ◌≤◌}
use native.Mathlib.Omega.{arith}
use lib.Bits.{bit_xor}
use lib.Count.{count_trailing_zeros}
use Rattle.windows.specs.Windows.{exact_lv1, position_of}
use Rattle.windows.proofs.Positions.{by_pattern}
use Rattle.windows.proofs.position.Goals as goal
use Rattle.windows.proofs.position.Goals.{Start}

abbrev difference : ℕ → ℕ
difference w = bit_xor w exact_lv1

-- An exact LV1, and one whose lowest differing bit is its only one.
record Told (w : ℕ) : Type 0 where
  exact : difference w ≡ 0 → 0 ≡ position_of w
  low : (difference w ≡ 0 → ⊥) → count_trailing_zeros 8 (difference w) ≤ 5
  flip : (difference w ≡ 0 → ⊥) → 5 - count_trailing_zeros 8 (difference w) ≡ position_of w

told : (c : Start) → Told c.args.window
unfolding count_trailing_zeros
told c =
    by_pattern Told _ c.requires
    (record { exact = λ e. refl; low = λ n. absurd (n refl); flip = λ n. absurd (n refl) })
    (record { exact = λ e. absurd (omega arith); low = λ n. omega arith; flip = λ n. refl })
    (record { exact = λ e. absurd (omega arith); low = λ n. omega arith; flip = λ n. refl })
    (record { exact = λ e. absurd (omega arith); low = λ n. omega arith; flip = λ n. refl })
    (record { exact = λ e. absurd (omega arith); low = λ n. omega arith; flip = λ n. refl })
    (record { exact = λ e. absurd (omega arith); low = λ n. omega arith; flip = λ n. refl })

pub returns-then-difference-eq0 : goal.returns-then-difference-eq0
returns-then-difference-eq0 c = (told c.before).exact c.if-difference-eq0.true

pub overflow_cast-result : goal.overflow_cast-result
overflow_cast-result c = let h = (told c.before).low c.if-difference-eq0.false in omega arith

pub overflow_sub-result : goal.overflow_sub-result
overflow_sub-result c = (told c.before).low c.if-difference-eq0.false

pub returns : goal.returns
returns c = (told c.before).flip c.if-difference-eq0.false
