-- Streams in bits with what is said of each: the number, and the place (document 02, F-8).
-- Assumes nothing.
use Rattle.std.specs.Prelude.{◌≡◌, List, [], ◌∷◌, ◌++◌, map, ℕ, replicate}
use Rattle.patterns.specs.Verdicts.{verdict_number, verdict_place, verdict_of}

pub record VerdictRow : Type 0 where
  pub bits : List ℕ
  pub number : ℕ
  pub place : ℕ

abbrev row : List ℕ → ℕ → ℕ → VerdictRow
row bits number place = record { bits = bits; number = number; place = place }

-- The commands' bits, as the chip paper's Table 1-1 has them, and zeros.
abbrev lv1 : List ℕ
lv1 = 1 ∷ 1 ∷ 1 ∷ 0 ∷ 1 ∷ []

abbrev bcr : List ℕ
bcr = 1 ∷ 0 ∷ 1 ∷ 1 ∷ 0 ∷ 0 ∷ 0 ∷ 0 ∷ 1 ∷ []

abbrev ecr : List ℕ
ecr = 1 ∷ 0 ∷ 1 ∷ 1 ∷ 0 ∷ 0 ∷ 0 ∷ 1 ∷ 0 ∷ []

abbrev cal : List ℕ
cal = 1 ∷ 0 ∷ 1 ∷ 1 ∷ 0 ∷ 0 ∷ 1 ∷ 0 ∷ 0 ∷ []

abbrev sync : List ℕ
sync = 1 ∷ 0 ∷ 1 ∷ 1 ∷ 0 ∷ 1 ∷ 0 ∷ 0 ∷ 0 ∷ []

abbrev zeros : ℕ → List ℕ
zeros n = replicate n 0

abbrev pub verdict_table : List VerdictRow
verdict_table =
    -- accepted: no bits, zeros, each command, and each entry of the timing table with the zeros that it asks
    row [] 0 0
    ∷ row (zeros 7) 0 0
    ∷ row (zeros 3 ++ lv1 ++ lv1 ++ bcr ++ lv1) 0 0
    ∷ row (bcr ++ zeros 2 ++ ecr ++ zeros 1 ++ cal ++ sync ++ zeros 4 ++ lv1) 0 0
    ∷ row (sync ++ bcr ++ lv1 ++ ecr ++ lv1 ++ zeros 2) 0 0
    -- one zero fewer
    ∷ row (bcr ++ zeros 1 ++ bcr) 15 10
    ∷ row (lv1 ++ bcr ++ zeros 1 ++ sync ++ zeros 9) 15 15
    ∷ row (ecr ++ cal) 15 9
    ∷ row (sync ++ zeros 3 ++ lv1) 15 12
    -- the stream ends inside a command, even one that is too close
    ∷ row (1 ∷ []) 14 0
    ∷ row (1 ∷ 0 ∷ 1 ∷ 1 ∷ []) 14 0
    ∷ row (1 ∷ 1 ∷ 1 ∷ 0 ∷ []) 14 0
    ∷ row (1 ∷ 0 ∷ 1 ∷ 1 ∷ 0 ∷ 0 ∷ 0 ∷ 0 ∷ []) 14 0
    ∷ row (1 ∷ 0 ∷ 1 ∷ 1 ∷ 0 ∷ 1 ∷ 0 ∷ []) 14 0
    ∷ row (bcr ++ (1 ∷ 0 ∷ 1 ∷ 1 ∷ [])) 14 9
    -- no command begins so: an LV1 with flip, a bad Fast, a Slow's header
    ∷ row (1 ∷ 0 ∷ 1 ∷ 0 ∷ []) 13 0
    ∷ row (1 ∷ 1 ∷ 1 ∷ 0 ∷ 0 ∷ []) 13 0
    ∷ row (1 ∷ 0 ∷ 1 ∷ 1 ∷ 0 ∷ 0 ∷ 0 ∷ 0 ∷ 0 ∷ []) 13 0
    ∷ row (1 ∷ 0 ∷ 1 ∷ 1 ∷ 0 ∷ 1 ∷ 0 ∷ 1 ∷ []) 13 0
    ∷ row (zeros 2 ++ (1 ∷ 0 ∷ 1 ∷ 1 ∷ 0 ∷ 1 ∷ 0 ∷ 1 ∷ 1 ∷ [])) 13 2
    ∷ row (lv1 ++ zeros 1 ++ (1 ∷ 1 ∷ 0 ∷ 1 ∷ [])) 13 6
    -- the first pattern at fault counts, whatever follows
    ∷ row (ecr ++ cal ++ (1 ∷ 1 ∷ 0 ∷ [])) 15 9
    ∷ row ((1 ∷ 1 ∷ 0 ∷ []) ++ zeros 3 ++ (1 ∷ [])) 13 0
    ∷ []

-- Each row's stream is judged so.
abbrev pub VerdictExamples : Type 0
VerdictExamples =
    (map (λ r. verdict_number (verdict_of r.bits)) verdict_table ≡ map (λ r. r.number) verdict_table)
    × (map (λ r. verdict_place (verdict_of r.bits)) verdict_table ≡ map (λ r. r.place) verdict_table)
