-- A run of `accept` under way: what is still said of its stream, and what each step keeps.
-- Assumes nothing.
use Rattle.std.specs.Prelude.{◌≡◌, ℕ, ◌≤◌, true, false, cond, List, [], ◌∷◌, ◌++◌, ◌==◌}
use Rattle.limits.specs.Limits.{clock_limit}
use Rattle.acceptance.specs.Progress as progress
use Rattle.acceptance.specs.Progress.{verdict_on, reached, Fits}
use Rattle.line_meanings.specs.declared.LineSoFar.{LineSoFar}
use Rattle.line_meanings.specs.Lines.{empty_line, read_so_far, read_from}
use Rattle.judging.specs.declared.Judging.{Judging}
use Rattle.judgements.specs.declared.Judgement.{Judgement}
use Rattle.judgements.specs.Judgement.{by_verdict, by_line, judged_lines}

abbrev pub start : Judging
start = record { progress = progress.start; line = empty_line; lines = 0; bits = 0; over = false; number = 0 }

abbrev pub refused_at : Judging → LineSoFar → ℕ → ℕ → Judging
refused_at s line lines number =
    record { progress = s.progress; line = line; lines = lines; bits = s.bits; over = true; number = number }

-- What is said if the run ends here, after a line's end.
abbrev pub judgement_of : Judging → Judgement
judgement_of s = cond (s.number == 0) (by_verdict (verdict_on s.progress [])) (by_line s.number s.lines s.line.notes)

-- What is said in the end, given the characters that are still to come.
unfoldable pub still_judged : Judging → List ℕ → Judgement
still_judged s characters =
    cond s.over (judgement_of s) (judged_lines (verdict_on s.progress) s.bits s.lines (read_from s.line characters))

-- What each run has.
pub record WellFormed (s : Judging) : Type 0 where
  pub fits : Fits s.progress
  pub near : reached s.progress ≤ s.bits
  pub clock : s.bits ≤ clock_limit
  pub numbered : s.over ≡ false → s.number ≡ 0

-- The end of a line: what is said of it is what is said of the line and those behind it, and the next one begins.
pub record EndsLine (s r : Judging) : Type 0 where
  pub well_formed : WellFormed r
  pub fresh : r.over ≡ false → r.line ≡ empty_line
  pub same : (characters : List ℕ) → still_judged r characters
      ≡ judged_lines (verdict_on s.progress) s.bits s.lines (read_so_far s.line ∷ read_from empty_line characters)

-- A block of characters, whatever more follow.
pub record JudgesBlock (s : Judging) (characters : List ℕ) (r : Judging) : Type 0 where
  pub well_formed : WellFormed r
  pub same : (more : List ℕ) → still_judged r more ≡ still_judged s (characters ++ more)

-- The input's end, which ends a line that has begun.
pub record EndsInput (s r : Judging) : Type 0 where
  pub well_formed : WellFormed r
  pub same : judgement_of r ≡ still_judged s []
