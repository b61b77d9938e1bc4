-- What the loop over a block keeps, and the input's end.
-- Assumes nothing.
use Rattle.std.proofs.Common.{◌≡◌, ℕ, ◌<◌, ◌≤◌, Bool, true, false, ◌||◌, List, [], ◌∷◌, ◌++◌, length, drop, sym, refl, ap, ◌∙◌, arith, drop_of_length-le, eq-eqb}
use Rattle.bits.proofs.Truth.{neither}
use Rattle.acceptance.specs.Progress.{verdict_on}
use Rattle.line_meanings.specs.declared.LineSoFar.{LineSoFar}
use Rattle.line_meanings.specs.declared.Scanned.{Scanned}
use Rattle.line_meanings.specs.Lines.{empty_line, no_characters, scan_of, read_so_far, read_from}
use Rattle.line_meanings.proofs.Blocks.{scan_complete, scan_incomplete, scan_to_end, scan_within, scan_advances}
use Rattle.judging.specs.declared.Judging.{Judging}
use Rattle.judgements.specs.Judgement.{judged_lines}
use Rattle.judging.specs.Judging.{judgement_of, still_judged, WellFormed, EndsLine, JudgesBlock, EndsInput}

-- A run that is over, and one that goes on.
over_judged : (s : Judging) (characters : List ℕ) → s.over ≡ true → still_judged s characters ≡ judgement_of s
unfolding still_judged
over_judged s characters e = rw e

going_judged : (s : Judging) (characters : List ℕ) → s.over ≡ false
    → still_judged s characters ≡ judged_lines (verdict_on s.progress) s.bits s.lines (read_from s.line characters)
unfolding still_judged
going_judged s characters e = rw e

-- The run with another line so far.
abbrev pub with_line : Judging → LineSoFar → Judging
with_line s line = record { progress = s.progress; line = line; lines = s.lines; bits = s.bits; over = s.over; number = s.number }

pub with_line_formed : {s : Judging} → WellFormed s → (line : LineSoFar) → WellFormed (with_line s line)
with_line_formed w line = record { fits = w.fits; near = w.near; clock = w.clock; numbered = w.numbered }

pub record Invariant (from : Judging) (input : List ℕ) (next : ℕ) (s : Judging) : Type 0 where
  pub well_formed : WellFormed s
  pub within : next ≤ length input
  pub same : (more : List ℕ) → still_judged s (drop next input ++ more) ≡ still_judged from (input ++ more)

module _ {from : Judging} {input : List ℕ} where
  pub initially : WellFormed from → Invariant from input 0 from
  initially w = record { well_formed = w; within = omega arith; same = λ more. refl }

  module _ {next : ℕ} {s : Judging} (i : Invariant from input next s) where
    -- a scan up to the next line feed, or to the block's end
    module _ (goes : s.over ≡ false) (some : next < length input) (scanned : Scanned) (e : scanned ≡ scan_of s.line input next) where
      further : scanned.next ≤ length input
      further = rw e (scan_within s.line input next (omega arith))

      pub advances : next < scanned.next
      advances = rw e (scan_advances s.line input next some)

      pub line_ended : scanned.complete ≡ true → {r : Judging} → EndsLine (with_line s scanned.line) r → Invariant from input scanned.next r
      line_ended complete {r} l = record {
        well_formed = l.well_formed;
        within = further;
        same = λ more.
            let rest = drop scanned.next input ++ more in
            let lines : read_from s.line (drop next input ++ more) ≡ read_so_far scanned.line ∷ read_from empty_line rest =
            rw e (scan_complete s.line input next more (rw e at complete)) in
            l.same rest
            ∙ ap (judged_lines (verdict_on s.progress) s.bits s.lines) (sym lines)
            ∙ sym (going_judged s (drop next input ++ more) goes)
            ∙ i.same more;
      }

      pub line_open : scanned.complete ≡ false → Invariant from input scanned.next (with_line s scanned.line)
      line_open incomplete = record {
        well_formed = with_line_formed i.well_formed scanned.line;
        within = further;
        same = λ more.
            let o : (scan_of s.line input next).complete ≡ false = rw e at incomplete in
            let rest = drop scanned.next input ++ more in
            let lines : read_from s.line (drop next input ++ more) ≡ read_from scanned.line rest =
            rw (e, scan_to_end s.line input next o) (scan_incomplete s.line input next more o) in
            going_judged (with_line s scanned.line) rest goes
            ∙ ap (judged_lines (verdict_on s.progress) s.bits s.lines) (sym lines)
            ∙ sym (going_judged s (drop next input ++ more) goes)
            ∙ i.same more;
      }

    -- the block is read, or the run is over
    pub at_end : length input ≤ next → JudgesBlock from input s
    at_end h = record {
      well_formed = i.well_formed;
      same = λ more. ap (λ (l : List ℕ). still_judged s (l ++ more)) (sym (drop_of_length-le input {i = next} h)) ∙ i.same more;
    }

    pub at_refusal : s.over ≡ true → JudgesBlock from input s
    at_refusal e = record {
      well_formed = i.well_formed;
      same = λ more. over_judged s more e ∙ sym (over_judged s (drop next input ++ more) e) ∙ i.same more;
    }

-- A run at the end of a line and of the input.
none_begun : {s : Judging} → WellFormed s → s.over ≡ false → no_characters s.line ≡ true → judgement_of s ≡ still_judged s []
unfolding read_from judged_lines
none_begun {s} w goes none = rw (eq-eqb s.number 0 (w.numbered goes)) (sym (going_judged s [] goes ∙ rw none))

ended_fresh : {s r : Judging} → EndsLine s r → (b : Bool) → r.over ≡ b → judgement_of r ≡ still_judged r []
ended_fresh {r = r} l true e = sym (over_judged r [] e)
ended_fresh {r = r} l false e = none_begun l.well_formed e (ap no_characters (l.fresh e))

-- The input's end: the run is over, or no line has begun; or one has, and ends.
module _ {s : Judging} (w : WellFormed s) where
  here_by : (b : Bool) → s.over ≡ b → (b || no_characters s.line) ≡ true → judgement_of s ≡ still_judged s []
  here_by true o e = sym (over_judged s [] o)
  here_by false o e = none_begun w o e

  pub ends_here : (s.over || no_characters s.line) ≡ true → EndsInput s s
  ends_here e = record { well_formed = w; same = here_by s.over refl e }

  pub ends_line : (s.over || no_characters s.line) ≡ false → {r : Judging} → EndsLine s r → EndsInput s r
  unfolding read_from
  ends_line e {r} l =
      let n = neither s.over (no_characters s.line) e in
      let line : read_from s.line [] ≡ read_so_far s.line ∷ [] = rw n.1 in
      record {
        well_formed = l.well_formed;
        same =
            ended_fresh l r.over refl
            ∙ l.same []
            ∙ sym (going_judged s [] n.0 ∙ ap (judged_lines (verdict_on s.progress) s.bits s.lines) line);
      }
