-- Two words put into the list through the part of it that begins at their place.
-- Assumes nothing.
use mathlib.Core.Path.{◌≡◌, ◌∙◌, sym, ap}
use mathlib.Core.List.{List, ◌++◌}
use Prim.Native.Nat.{ℕ, ◌+◌, ◌-◌, ◌<◌, ◌≤◌}
use native.Mathlib.Nat.{add-zero}
use native.Mathlib.Omega.{arith}
use lib.ListN.{length, set, take, drop, length-set, length-take, length-drop, take-append-drop}
use lib.Seq.{set-append_left, take-set-le, drop-set-add}

pub two_put : (l : List ℕ) (at x v : ℕ) → 2 ≤ length l - at
    → take at l ++ (set (set (take (length l - at) (drop at l)) 0 x) 1 v ++ drop (length l - at) (drop at l)) ≡ set (set l at x) (at + 1) v
two_put l at x v h =
    let m = take (length l - at) (drop at l) in
    let n : 0 < length m = simp (length-take, length-drop) (omega arith) in
    let n₁ : 1 < length (set m 0 x) = simp (length-set, length-take, length-drop) (omega arith) in
    let left : set (set m 0 x) 1 v ++ drop (length l - at) (drop at l) ≡ set (set (drop at l) 0 x) 1 v =
    sym (set-append_left (set m 0 x) _ 1 v n₁)
    ∙ ap (λ (z : List ℕ). set z 1 v) (sym (set-append_left m _ 0 x n) ∙ ap (λ (z : List ℕ). set z 0 x) (take-append-drop (length l - at) (drop at l)))
    in
    let z : at + 0 ≡ at = add-zero at in
    let right : drop at (set (set l at x) (at + 1) v) ≡ set (set (drop at l) 0 x) 1 v =
    drop-set-add at (set l at x) 1 v ∙ ap (λ (y : List ℕ). set y 1 v) (rw z at (drop-set-add at l 0 x))
    in
    let front : take at (set (set l at x) (at + 1) v) ≡ take at l =
    take-set-le at (set l at x) (at + 1) v (omega arith) ∙ take-set-le at l at x (omega arith)
    in
    rw (left, ← right, ← front) (take-append-drop at (set (set l at x) (at + 1) v))
