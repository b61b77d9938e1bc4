-- An LV1 by its patterns; its position is at most 5.
-- Assumes nothing.
use mathlib.Core.Bool.{Bool, true, ◌&&◌}
use mathlib.Core.List.{List, [], ◌∷◌}
use mathlib.Core.Logic.{⊎_elim}
use mathlib.Core.Path.{◌≡◌}
use Prim.Native.Nat.{ℕ, ◌≤◌}
use native.Mathlib.Omega.{arith}
use lib.Dec.{eqb, leb, T, leb→le}
use lib.ListN.{get_or}
use borrow.Author.Tests.{eqb-true}
use Rattle.bits.proofs.Truth.{either, and_left, and_right, cond_case}
use Rattle.windows.specs.Windows.{exact_lv1, is_lv1, received_bit, places, differences, position_of}

abbrev low : List ℕ → Bool
low [] = true
low (k ∷ ks) = leb k 5 && low ks

first_low : (w : ℕ) (ks : List ℕ) → T (low ks) → get_or (differences w ks) 0 0 ≤ 5
first_low w [] t = omega arith
first_low w (k ∷ ks) t =
    cond_case (λ (l : List ℕ). get_or l 0 0 ≤ 5) (eqb (received_bit w k) (received_bit exact_lv1 k))
    (λ _. first_low w ks (and_right (leb k 5) _ t)) (λ _. leb→le k 5 (and_left (leb k 5) _ t))

pub position_low : (w : ℕ) → position_of w ≤ 5
position_low w = first_low w places tt

-- What holds of each of document 01's six patterns holds of an LV1.
pub by_pattern : (P : ℕ → Type 0) (w : ℕ) → is_lv1 w ≡ true → P exact_lv1 → P 0b11100 → P 0b11111 → P 0b11001 → P 0b10101 → P 0b01101 → P w
by_pattern P w t exact fifth fourth third second first =
    let named : (v : ℕ) → P v → eqb w v ≡ true → P w = λ v p e. rw (eqb-true w v e) p in
    ⊎_elim (named exact_lv1 exact)
    (λ t. ⊎_elim (named 0b11100 fifth)
    (λ t. ⊎_elim (named 0b11111 fourth)
    (λ t. ⊎_elim (named 0b11001 third)
    (λ t. ⊎_elim (named 0b10101 second) (named 0b01101 first)
    (either _ _ t)) (either _ _ t)) (either _ _ t)) (either _ _ t)) (either _ _ t)
