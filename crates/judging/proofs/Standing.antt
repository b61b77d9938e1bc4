-- What a run of `accept` stands for: the characters read so far, whatever more follow.
-- Assumes nothing.
use Rattle.std.proofs.Common.{◌≡◌, ℕ, List, [], ◌∷◌, ◌++◌, sym, refl, ap, ◌∙◌, subst, append_assoc, append-nil, arith}
use Rattle.acceptance.specs.Progress as progress
use Rattle.acceptance.proofs.Steps.{going, start_fits}
use Rattle.line_meanings.proofs.Blocks.{lines}
use Rattle.judging.specs.declared.Judging.{Judging}
use Rattle.judgements.specs.Judgement.{judged_lines, judged_of}
use Rattle.judging.specs.Judging.{start, judgement_of, still_judged, WellFormed, JudgesBlock, EndsInput}
use Rattle.judging.specs.Blocks.{BlocksJudged, joined, AsRead}

pub record Stands (characters : List ℕ) (s : Judging) : Type 0 where
  pub well_formed : WellFormed s
  pub same : (more : List ℕ) → judged_of (characters ++ more) ≡ still_judged s more

pub start_stands : Stands [] start
unfolding judged_of still_judged
start_stands = record {
  well_formed = record { fits = start_fits; near = omega arith; clock = omega arith; numbered = λ _. refl };
  same = λ more. λ i. judged_lines (λ bits. sym (going progress.start bits refl) i) 0 0 (sym (lines more) i);
}

pub block_stands : {characters : List ℕ} {s r : Judging} {block : List ℕ} → Stands characters s → JudgesBlock s block r → Stands (characters ++ block) r
block_stands {characters} {block = block} t j = record {
  well_formed = j.well_formed;
  same = λ more. ap judged_of (append_assoc characters block more) ∙ t.same (block ++ more) ∙ sym (j.same more);
}

-- At the end, what is said is what is said of them all.
pub end_stands : {characters : List ℕ} {s r : Judging} → Stands characters s → EndsInput s r → judged_of characters ≡ judgement_of r
end_stands {characters} t e = sym (ap judged_of (append-nil characters)) ∙ t.same [] ∙ sym e.same

-- Blocks in a row.
blocks_stand : (blocks : List (List ℕ)) {characters : List ℕ} {s r : Judging} → Stands characters s → BlocksJudged s blocks r
    → Stands (characters ++ joined blocks) r
blocks_stand [] {characters} {r = r} t e = subst (λ (l : List ℕ). Stands l r) (sym (append-nil characters)) (subst (Stands characters) e t)
blocks_stand (block ∷ blocks) {characters} {r = r} t j =
    subst (λ (l : List ℕ). Stands l r) (append_assoc characters block (joined blocks)) (blocks_stand blocks (block_stands t j.1) j.2)

pub as_read : AsRead
as_read blocks r e j ends = sym (end_stands (blocks_stand blocks start_stands j) ends)
