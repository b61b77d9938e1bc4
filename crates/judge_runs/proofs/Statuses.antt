-- The status of a run by its judgement's number.
-- Assumes nothing.
use mathlib.Core.Path.{◌≡◌, ◌∙◌, sym, ap, subst}
use mathlib.Core.Logic.{inl, inr, ⊎_elim}
use mathlib.Core.List.{List, []}
use Prim.Native.Nat.{ℕ}
use Rattle.statuses.specs.Status.{status_of, Finished}
use Rattle.judging.specs.declared.Judging.{Judging}
use Rattle.judgements.specs.declared.Judgement.{Judgement}
use Rattle.judgements.specs.Judgement.{judged_of}
use Rattle.judging.specs.Judging.{start, judgement_of, JudgesBlock, EndsInput}
use Rattle.judging.proofs.Standing.{Stands, start_stands, block_stands, end_stands}
use Rattle.judge_runs.specs.Runs.{JudgedRun}

-- Of a run that stands for the characters it read.
pub judged_run : {characters : List ℕ} {s r : Judging} {status : ℕ} → Stands characters s → EndsInput s r → Finished (judgement_of r).number status
    → JudgedRun status
judged_run {characters} t e f =
    ⊎_elim inl (λ told. inr (record {
      characters = characters;
      told = told ∙ ap (λ (j : Judgement). status_of j.number) (sym (end_stands t e));
    })) f

-- From the start on.
pub judged_from_start : {characters : List ℕ} {s r t : Judging} {status : ℕ} → s ≡ start → JudgesBlock s characters r → EndsInput r t
    → Finished (judgement_of t).number status → JudgedRun status
judged_from_start e j ends = judged_run (block_stands (subst (Stands []) (sym e) start_stands) j) ends
