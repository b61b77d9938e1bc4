-- The timing table is the chip paper's Table 1-3, and a bad Fast and a bad Slow are as document 02 has them.
-- Assumes nothing.
use mathlib.Core.List.{List, [], ◌∷◌, ◌++◌, map}
use mathlib.Core.Path.{◌≡◌, refl}
use Prim.Native.Nat.{ℕ, ◌+◌, ◌≤◌}
use native.Mathlib.Omega.{arith}
use lib.Dec.{eqb}
use Rattle.bits.proofs.Truth.{cond_most}
use Rattle.records.specs.Records.{kind_lv1, kind_bad_fast, kind_bad_slow}
use Rattle.timing.specs.Table.{kind_bcr, kind_ecr, kind_sync, is_lv1_kind, fast_kinds, slow_kinds, table13, distances, zeros_asked}

-- The commands of Table 1-3, and what it does not speak of: a bad Fast and a bad Slow.
abbrev commands : List ℕ
commands = kind_lv1 ∷ fast_kinds ++ slow_kinds

abbrev bad : List ℕ
bad = kind_bad_fast ∷ kind_bad_slow ∷ []

abbrev pairs : {A : Type 0} → (ℕ → ℕ → A) → List ℕ → List ℕ → List (List A)
pairs f firsts nexts = map (λ kind. map (f kind) nexts) firsts

-- The table by kinds and Table 1-3 say the same of all 225 pairs, and each pair has one row.
pub table_13 : pairs (distances table13) commands commands ≡ pairs (λ kind next. zeros_asked kind next ∷ []) commands commands
table_13 = refl

-- "none of these three asks zeros after itself", whatever follows; of the third, a Slow, Table 1-3 speaks.
pub nothing_after : pairs zeros_asked bad (commands ++ bad) ≡ pairs (λ kind next. 0) bad (commands ++ bad)
nothing_after = refl

-- Each of the two counts "as a Fast when it follows".
pub follow_as_fast : pairs zeros_asked commands bad ≡ pairs (λ kind next. zeros_asked kind kind_bcr) commands bad
follow_as_fast = refl

-- No entry asks more than four zeros.
pub asked_most : (kind next : ℕ) → zeros_asked kind next ≤ 4
asked_most kind next =
    cond_most (is_lv1_kind next) (cond_most (eqb kind kind_sync) (omega arith) (omega arith))
    (cond_most (eqb kind kind_bcr) (omega arith) (cond_most (eqb kind kind_ecr) (omega arith) (omega arith)))
