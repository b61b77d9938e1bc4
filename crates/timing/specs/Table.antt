-- The timing table by the kinds of records (document 01, "The damage table"; document 02, F-5), and the chip paper's Table 1-3.
-- Assumes nothing.
use Rattle.std.specs.Prelude.{Bool, false, cond, ◌&&◌, ◌||◌, List, [], ◌∷◌, ◌++◌, map, ℕ, eqb}
use Rattle.records.specs.Records.{kind_lv1, kind_fast, kind_slow}

abbrev pub kind_bcr : ℕ
kind_bcr = kind_fast 0b0001

abbrev pub kind_ecr : ℕ
kind_ecr = kind_fast 0b0010

abbrev pub kind_cal : ℕ
kind_cal = kind_fast 0b0100

abbrev pub kind_sync : ℕ
kind_sync = kind_fast 0b1000

-- "An LV1 with flip counts as an LV1": they have one kind.
abbrev pub is_lv1_kind : ℕ → Bool
is_lv1_kind kind = eqb kind kind_lv1

-- "after SYNC 4, if an LV1 follows"
abbrev pub before_lv1 : ℕ → ℕ
before_lv1 kind = cond (eqb kind kind_sync) 4 0

-- "after BCR 2, after ECR 1, if a Fast follows". "A bad Fast counts as a Fast when it follows; a Slow or bad Slow too": so does all that is no LV1.
abbrev pub before_fast : ℕ → ℕ
before_fast kind = cond (eqb kind kind_bcr) 2 (cond (eqb kind kind_ecr) 1 0)

-- "The timing table asks for these zeros between commands: ..; otherwise 0." A bad Fast, a Slow and a bad Slow: "none of these three asks zeros after
-- itself".
abbrev pub zeros_asked : ℕ → ℕ → ℕ
zeros_asked kind next = cond (is_lv1_kind next) (before_lv1 kind) (before_fast kind)

-- The chip paper's Table 1-3, row by row: the command, the following command, the distance.
pub record TimingRow : Type 0 where
  pub first : List ℕ
  pub next : List ℕ
  pub zeros : ℕ

abbrev pub timing_row : List ℕ → List ℕ → ℕ → TimingRow
timing_row first next zeros = record { first = first; next = next; zeros = zeros }

abbrev pub fast_kinds : List ℕ
fast_kinds = kind_bcr ∷ kind_ecr ∷ kind_cal ∷ kind_sync ∷ []

-- Field 3 of each Slow: 0 to 6 and 8 to 10.
abbrev pub slow_kinds : List ℕ
slow_kinds = map kind_slow (0 ∷ 1 ∷ 2 ∷ 3 ∷ 4 ∷ 5 ∷ 6 ∷ 8 ∷ 9 ∷ 10 ∷ [])

-- Its last row has "see text" for a number: "a Fast or Trigger command can be issued immediately after a Slow command without any gap" (section 1.4); for
-- a Slow after a Slow document 02 decides.
abbrev pub table13 : List TimingRow
table13 =
    timing_row (kind_lv1 ∷ []) (kind_lv1 ∷ []) 0
    ∷ timing_row (kind_lv1 ∷ []) (fast_kinds ++ slow_kinds) 0
    ∷ timing_row (kind_bcr ∷ kind_ecr ∷ kind_cal ∷ []) (kind_lv1 ∷ []) 0
    ∷ timing_row (kind_sync ∷ []) (kind_lv1 ∷ []) 4
    ∷ timing_row (kind_bcr ∷ []) (fast_kinds ++ slow_kinds) 2
    ∷ timing_row (kind_cal ∷ kind_sync ∷ []) (fast_kinds ++ slow_kinds) 0
    ∷ timing_row (kind_ecr ∷ []) (fast_kinds ++ slow_kinds) 1
    ∷ timing_row slow_kinds (kind_lv1 ∷ fast_kinds ++ slow_kinds) 0
    ∷ []

abbrev pub among_kinds : ℕ → List ℕ → Bool
among_kinds kind [] = false
among_kinds kind (k ∷ ks) = eqb kind k || among_kinds kind ks

-- The distances that its rows give for two kinds.
abbrev pub distances : List TimingRow → ℕ → ℕ → List ℕ
distances [] kind next = []
distances (r ∷ rs) kind next =
    cond (among_kinds kind r.first && among_kinds next r.next) (r.zeros ∷ distances rs kind next) (distances rs kind next)
