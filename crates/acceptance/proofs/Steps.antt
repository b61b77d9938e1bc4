-- One bit more: a zero between patterns, the beginning of a command, a whole one, or a pattern that is none; and a stream's end.
-- Assumes nothing.
use mathlib.Core.Path.{◌≡◌, ◌∙◌, refl, sym, ap, subst}
use mathlib.Core.Bool.{Bool, true, false, cond}
use mathlib.Core.List.{List, [], ◌∷◌, ◌++◌, append_assoc, append-nil}
use mathlib.Core.Logic.{inl, inr}
use Prim.Native.Nat.{ℕ, ◌+◌, ◌<◌, ◌≤◌}
use native.Mathlib.Numerals.{add-one}
use native.Mathlib.Omega.{arith}
use lib.Dec.{leb}
use lib.ListN.{length, drop, length-append}
use borrow.Author.Tests.{eq-eqb, ne_eqb, le-leb, lt-leb}
use Rattle.timing.specs.Table.{zeros_asked}
use Rattle.clean_streams.specs.Commands.{Command, lv1, bcr, ecr, cal, sync, code_of, width_of, command_kind}
use Rattle.patterns.specs.Verdict.{Accepted, Cut}
use Rattle.patterns.specs.Patterns.{commands, unknown, cut, pattern_of}
use Rattle.patterns.specs.Verdicts.{verdict_from, verdict_of}
use Rattle.patterns.proofs.PatternLaws.{unknown_more}
use Rattle.patterns.proofs.VerdictSteps.{command_judged, unknown_judged, cut_judged}
use Rattle.acceptance.specs.declared.Progress.{Progress}
use Rattle.acceptance.specs.Progress.{pattern_bits, progress, start, completed_of, fault_at, verdict_on, reached, Fits, After}
use Rattle.acceptance.proofs.PatternNumbers.{first_one}

-- What is said while no pattern is at fault, and where one is.
pub going : (p : Progress) (bits : List ℕ) → p.fault ≡ 0
    → verdict_on p bits ≡ verdict_from p.last p.zeros p.place 0 (pattern_bits p.pattern ++ bits)
unfolding verdict_on
going p bits e = simp (eq-eqb p.fault 0 e)

pub at_fault : (p : Progress) (bits : List ℕ) → (p.fault ≡ 0 → ⊥) → verdict_on p bits ≡ fault_at p.fault p.place
unfolding verdict_on
at_fault p bits n = simp (ne_eqb p.fault 0 n)

module _ (p : Progress) (none : p.fault ≡ 0) (fits : Fits p) where
  pub zero_after : (bit : ℕ) → bit ≡ 0 → p.pattern ≡ 0 → After p (bit ∷ []) (progress (p.place + 1) (p.zeros + 1) p.last 0 0)
  unfolding verdict_from
  zero_after bit b e = record {
    fits = record { pattern = inl refl; narrow = omega arith; zeros = omega (arith, fits.zeros) };
    near = omega arith;
    same = λ more.
        going (progress (p.place + 1) (p.zeros + 1) p.last 0 0) more refl
        ∙ (λ i. verdict_from p.last (add-one p.zeros i) (add-one p.place i) 0 more)
        ∙ (λ i. verdict_from p.last p.zeros p.place 0 (pattern_bits (sym e i) ++ (sym b i ∷ more)))
        ∙ sym (going p (bit ∷ more) none);
  }

  -- The pattern with one bit more.
  module _ (n bit : ℕ) (longer : pattern_bits n ≡ pattern_bits p.pattern ++ (bit ∷ [])) where
    gathered : (more : List ℕ) → verdict_from p.last p.zeros p.place 0 (pattern_bits n ++ more) ≡ verdict_on p (bit ∷ more)
    gathered more =
        ap (λ (l : List ℕ). verdict_from p.last p.zeros p.place 0 (l ++ more)) longer
        ∙ ap (verdict_from p.last p.zeros p.place 0) (append_assoc (pattern_bits p.pattern) (bit ∷ []) more)
        ∙ sym (going p (bit ∷ more) none)

    held : length (pattern_bits n) ≡ length (pattern_bits p.pattern) + 1
    held = ap length longer ∙ length-append (pattern_bits p.pattern) (bit ∷ [])

    pub begun_after : n < 256 → pattern_of (pattern_bits n) ≡ cut → After p (bit ∷ []) (progress p.place p.zeros p.last n 0)
    begun_after h e = record {
      fits = record { pattern = inr e; narrow = h; zeros = fits.zeros };
      near = omega (arith, held);
      same = λ more. going (progress p.place p.zeros p.last n 0) more refl ∙ gathered more;
    }

    pub unknown_after : 0 < n → n < 512 → pattern_of (pattern_bits n) ≡ unknown → After p (bit ∷ []) (progress p.place p.zeros p.last 0 13)
    unknown_after s h e = record {
      fits = record { pattern = inl refl; narrow = omega arith; zeros = fits.zeros };
      near = omega arith;
      same = λ more.
          let tail = drop 1 (pattern_bits n) in
          let one : pattern_bits n ++ more ≡ 1 ∷ (tail ++ more) = ap (λ (l : List ℕ). l ++ more) (first_one n s h) in
          let u : pattern_of (1 ∷ (tail ++ more)) ≡ unknown = sym (ap pattern_of one) ∙ unknown_more (pattern_bits n) more commands e in
          at_fault (progress p.place p.zeros p.last 0 13) more (λ e. absurd (omega arith))
          ∙ sym (unknown_judged p.last p.zeros p.place (tail ++ more) 0 u)
          ∙ sym (ap (verdict_from p.last p.zeros p.place 0) one)
          ∙ gathered more;
    }

    -- In time or not.
    module _ (c : Command) (e : pattern_bits n ≡ code_of c) where
      judged_same : (more : List ℕ) (b : Bool) → leb (zeros_asked p.last (command_kind c)) p.zeros ≡ b
          → verdict_on (completed_of p c) more
          ≡ cond (leb (zeros_asked p.last (command_kind c)) p.zeros) (verdict_from (command_kind c) 0 (p.place + width_of c) 0 more)
          (fault_at 15 p.place)
      judged_same more true t = rw t (going (progress (p.place + width_of c) 0 (command_kind c) 0 0) more refl)
      judged_same more false t = rw t (at_fault (progress p.place p.zeros p.last 0 15) more (λ e. absurd (omega arith)))

      completed_fits : (b : Bool) → leb (zeros_asked p.last (command_kind c)) p.zeros ≡ b → Fits (completed_of p c)
      completed_fits true t = rw t (record { pattern = inl refl; narrow = omega arith; zeros = omega arith })
      completed_fits false t = rw t (record { pattern = inl refl; narrow = omega arith; zeros = fits.zeros })

      completed_near : (b : Bool) → leb (zeros_asked p.last (command_kind c)) p.zeros ≡ b → reached (completed_of p c) ≤ reached p + 1
      completed_near true t = let w : length (pattern_bits n) ≡ width_of c = ap length e in rw t (omega (arith, w, held))
      completed_near false t = rw t (omega arith)

      pub whole_after : After p (bit ∷ []) (completed_of p c)
      whole_after =
          let b = leb (zeros_asked p.last (command_kind c)) p.zeros in
          record {
            fits = completed_fits b refl;
            near = omega (arith, completed_near b refl);
            same = λ more.
                judged_same more b refl
                ∙ sym (command_judged p.last p.zeros p.place more c)
                ∙ ap (λ (l : List ℕ). verdict_from p.last p.zeros p.place 0 (l ++ more)) (sym e)
                ∙ gathered more;
          }

-- The stream's end.
module _ (p : Progress) (none : p.fault ≡ 0) where
  pub ends_clean : p.pattern ≡ 0 → Accepted ≡ verdict_on p []
  unfolding verdict_from
  ends_clean e = sym (going p [] none ∙ (λ i. verdict_from p.last p.zeros p.place 0 (pattern_bits (e i) ++ [])))

  pub ends_cut : 0 < p.pattern → p.pattern < 512 → pattern_of (pattern_bits p.pattern) ≡ cut → Cut p.place ≡ verdict_on p []
  ends_cut s h e =
      let tail = drop 1 (pattern_bits p.pattern) in
      let one = first_one p.pattern s h in
      let u : pattern_of (1 ∷ tail) ≡ cut = sym (ap pattern_of one) ∙ e in
      sym
      (going p [] none
      ∙ ap (verdict_from p.last p.zeros p.place 0) (append-nil (pattern_bits p.pattern) ∙ one)
      ∙ cut_judged p.last p.zeros p.place tail 0 u)

-- A command's width by the kind of its record.
pub width_lv1 : (c : Command) → command_kind c ≡ 0x01 → 5 ≡ width_of c
width_lv1 lv1 e = refl
width_lv1 bcr e = absurd (omega arith)
width_lv1 ecr e = absurd (omega arith)
width_lv1 cal e = absurd (omega arith)
width_lv1 sync e = absurd (omega arith)

pub width_fast : (c : Command) → (command_kind c ≡ 0x01 → ⊥) → 9 ≡ width_of c
width_fast lv1 n = absurd (n refl)
width_fast bcr n = refl
width_fast ecr n = refl
width_fast cal n = refl
width_fast sync n = refl

-- A whole command by the zeros asked ahead of it.
module _ (p : Progress) (c : Command) (kind asked : ℕ) (k : kind ≡ command_kind c) (a : asked ≡ zeros_asked p.last kind) where
  exactly : asked ≡ zeros_asked p.last (command_kind c)
  exactly = a ∙ ap (zeros_asked p.last) k

  pub completed_late : p.zeros < asked → progress p.place p.zeros p.last 0 15 ≡ completed_of p c
  completed_late h = simp (lt-leb (zeros_asked p.last (command_kind c)) p.zeros (subst (λ n. p.zeros < n) exactly h))

  pub completed_in_time : asked ≤ p.zeros → (width : ℕ) → width ≡ width_of c → progress (p.place + width) 0 kind 0 0 ≡ completed_of p c
  completed_in_time h width w =
      (λ i. progress (p.place + w i) 0 (k i) 0 0)
      ∙ simp (le-leb (zeros_asked p.last (command_kind c)) p.zeros (subst (λ n. n ≤ p.zeros) exactly h))

-- Ahead of the first bit.
pub start_fits : Fits start
start_fits = record { pattern = inl refl; narrow = omega arith; zeros = omega arith }

pub from_start : (bits : List ℕ) → verdict_on start (bits ++ []) ≡ verdict_of bits
from_start bits = going start (bits ++ []) refl ∙ ap verdict_of (append-nil bits)
