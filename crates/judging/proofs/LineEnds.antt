-- The end of a line in a run of `accept`: it is refused, its bits pass the last cycle, or they are judged.
-- Assumes nothing.
use Rattle.std.proofs.Common.{◌≡◌, ℕ, zero, suc, ◌+◌, ◌-◌, ◌*◌, ◌<◌, ◌≤◌, Bool, true, false, not, eqb, leb, List, [], length, sym, refl, ap, ◌∙◌, subst, ⊎_elim, append-nil, arith, eq-eqb, ne_eqb, eqb-true, le-leb}
use borrow.Author.Tests.{lt-leb}
use Rattle.limits.specs.Limits.{clock_limit}
use Rattle.bits.specs.Bits.{bits_of}
use Rattle.bits.proofs.BitRanges.{length_bits}
use Rattle.bits.proofs.Truth.{clash, choice}
use Rattle.patterns.specs.Verdict.{Verdict}
use Rattle.acceptance.specs.declared.Progress.{Progress}
use Rattle.acceptance.specs.Progress.{fault_at, verdict_on, Fits, After}
use Rattle.acceptance.proofs.Steps.{at_fault, ends_clean, ends_cut}
use Rattle.line_meanings.specs.declared.LineSoFar.{LineSoFar}
use Rattle.line_meanings.specs.Line.{line_bytes, hex_number}
use Rattle.line_meanings.specs.Lines.{empty_line, answer_of, meaning_so_far, read_so_far, read_from}
use Rattle.line_meanings.proofs.FitLines.{LineFits, line_fits, fitting_bits}
use Rattle.judging.specs.declared.Judging.{Judging}
use Rattle.judgements.specs.Judgement.{by_verdict, is_fault, line_bits, next_line_number, judged_lines}
use Rattle.judging.specs.Judging.{refused_at, still_judged, WellFormed, EndsLine}

-- A pattern is at fault, whatever follows, exactly where the progress says so.
fault_told : (fault place : ℕ) → is_fault (fault_at fault place) ≡ true
fault_told fault place = choice (λ (v : Verdict). is_fault v ≡ true) (eqb fault 13) (λ _. refl) (λ _. refl)

pub at_fault_tells : (p : Progress) → (p.fault ≡ 0 → ⊥) → is_fault (verdict_on p []) ≡ true
at_fault_tells p n = ap is_fault (at_fault p [] n) ∙ fault_told p.fault p.place

-- by whether a pattern is under way
module _ (p : Progress) (f : Fits p) (e : p.fault ≡ 0) where
  cut_tells : (n : ℕ) → p.pattern ≡ suc n → is_fault (verdict_on p []) ≡ false
  cut_tells n s =
      let some : 0 < p.pattern = omega (arith, s) in
      ⊎_elim (λ z. absurd (omega (arith, s, z))) (λ c. sym (ap is_fault (ends_cut p e some (omega (arith, f.narrow)) c))) f.pattern

  pub going_tells : (n : ℕ) → p.pattern ≡ n → is_fault (verdict_on p []) ≡ false
  going_tells zero z = sym (ap is_fault (ends_clean p e z))
  going_tells (suc n) s = cut_tells n s

-- A run that a refusal has ended.
refused_formed : {s : Judging} → WellFormed s → (line : LineSoFar) (lines number : ℕ) → WellFormed (refused_at s line lines number)
refused_formed w line lines number = record { fits = w.fits; near = w.near; clock = w.clock; numbered = λ e. clash refl e }

-- The line that ends.
module _ (s : Judging) (w : WellFormed s) (lines : ℕ) (counted : lines ≡ next_line_number s.lines) where
  -- it is refused
  pub line_refused : (number : ℕ) → number ≡ hex_number (answer_of s.line) → (number ≡ 0 → ⊥) → EndsLine s (refused_at s s.line lines number)
  unfolding still_judged judged_lines meaning_so_far
  line_refused number e n = record {
    well_formed = refused_formed w s.line lines number;
    fresh = λ e. clash refl e;
    same = λ characters. rw (← e, ne_eqb number 0 n, counted);
  }

  -- it is not
  module _ (right : hex_number (answer_of s.line) ≡ 0) (bytes : length s.line.bytes ≡ line_bytes) where
    fits : LineFits s.line
    fits = line_fits s.line right

    abbrev bits : List ℕ
    bits = bits_of s.line.bytes 0 (4 * s.line.digits)

    its_bits : line_bits (read_so_far s.line) ≡ bits
    its_bits = fitting_bits s.line fits bytes

    how_many : length (line_bits (read_so_far s.line)) ≡ 4 * s.line.digits
    how_many = ap length its_bits ∙ length_bits s.line.bytes 0 (4 * s.line.digits)

    -- its bits pass the last cycle
    pub clock_refused : clock_limit - s.bits < 4 * s.line.digits → EndsLine s (refused_at s empty_line lines 6)
    unfolding still_judged judged_lines meaning_so_far
    clock_refused h = record {
      well_formed = refused_formed w empty_line lines 6;
      fresh = λ e. clash refl e;
      same = λ characters.
          rw (right, lt-leb (s.bits + length (line_bits (read_so_far s.line))) clock_limit (omega (arith, how_many, w.clock)), counted);
    }

    -- its bits are judged
    module _ (inside : s.bits + 4 * s.line.digits ≤ clock_limit) (p : Progress) (a : After s.progress bits p)
        (line : LineSoFar) (empty : line ≡ empty_line) where
      abbrev next : Bool → Judging
      next over = record { progress = p; line = line; lines = lines; bits = s.bits + 4 * s.line.digits; over = over; number = 0 }

      next_formed : (over : Bool) → WellFormed (next over)
      next_formed over = record {
        fits = a.fits;
        near = omega (arith, a.near, w.near, length_bits s.line.bytes 0 (4 * s.line.digits));
        clock = inside;
        numbered = λ _. refl;
      }

      -- what is said with the line's bits
      said : verdict_on p [] ≡ verdict_on s.progress bits
      said = a.same [] ∙ ap (verdict_on s.progress) (append-nil bits)

      goes_on : leb (s.bits + length bits) clock_limit ≡ true
      goes_on = le-leb (s.bits + length bits) clock_limit (omega (arith, inside, length_bits s.line.bytes 0 (4 * s.line.digits)))

      line_faulty : (p.fault ≡ 0 → ⊥) → EndsLine s (next true)
      unfolding still_judged judged_lines meaning_so_far
      line_faulty n = record {
        well_formed = next_formed true;
        fresh = λ _. empty;
        same = λ characters.
            let t : is_fault (verdict_on s.progress bits) ≡ true = sym (ap is_fault said) ∙ at_fault_tells p n in
            rw (right, its_bits, goes_on, t) (ap by_verdict said);
      }

      line_judged : p.fault ≡ 0 → EndsLine s (next false)
      unfolding still_judged judged_lines meaning_so_far
      line_judged e = record {
        well_formed = next_formed false;
        fresh = λ _. empty;
        same = λ characters.
            let t : is_fault (verdict_on s.progress bits) ≡ false = sym (ap is_fault said) ∙ going_tells p a.fits e p.pattern refl in
            let many : 4 * s.line.digits ≡ length bits = sym (length_bits s.line.bytes 0 (4 * s.line.digits)) in
            rw (right, its_bits, goes_on, t)
            (λ i. judged_lines (λ rest. a.same rest i) (s.bits + many i) (counted i) (read_from (empty i) characters));
      }

      by_fault : (b : Bool) → eqb p.fault 0 ≡ b → EndsLine s (next (not (eqb p.fault 0)))
      by_fault true e = subst (λ (b : Bool). EndsLine s (next (not b))) (sym e) (line_judged (eqb-true p.fault 0 e))
      by_fault false e = subst (λ (b : Bool). EndsLine s (next (not b))) (sym e) (line_faulty (λ z. clash (eq-eqb p.fault 0 z) e))

      pub judged : EndsLine s (next (not (eqb p.fault 0)))
      judged = by_fault (eqb p.fault 0) refl
