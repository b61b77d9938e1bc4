-- Blocks of an input in a row, each by the contract of `Judging::judge_block`, and the input's end.
-- Assumes nothing.
use Rattle.std.specs.Prelude.{◌≡◌, ℕ, List, [], ◌∷◌, ◌++◌}
use Rattle.judging.specs.declared.Judging.{Judging}
use Rattle.judgements.specs.Judgement.{judged_of}
use Rattle.judging.specs.Judging.{start, judgement_of, JudgesBlock, EndsInput}

abbrev pub BlocksJudged : Judging → List (List ℕ) → Judging → Type 0
BlocksJudged s [] r = s ≡ r
BlocksJudged s (block ∷ blocks) r = (t : Judging) × JudgesBlock s block t × BlocksJudged t blocks r

abbrev pub joined : List (List ℕ) → List ℕ
joined [] = []
joined (block ∷ blocks) = block ++ joined blocks

-- Wherever the reads end: blocks from the start on, and then the input's end, come to what the program says of all their characters.
abbrev pub AsRead : Type 0
AsRead = (blocks : List (List ℕ)) (r e : Judging) → BlocksJudged start blocks r → EndsInput r e → judgement_of e ≡ judged_of (joined blocks)
