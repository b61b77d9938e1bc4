-- A verdict over bits in steps: bits of the pattern before, zeros, a whole command.
-- Assumes nothing.
use mathlib.Core.Path.{◌≡◌, ◌∙◌, ap}
use mathlib.Core.Bool.{cond}
use mathlib.Core.List.{List, ◌∷◌, ◌++◌}
use Prim.Native.Nat.{ℕ, zero, suc, ◌+◌}
use native.Mathlib.Nat.{add-zero}
use native.Mathlib.Omega.{arith}
use lib.Dec.{leb}
use Rattle.timing.specs.Table.{zeros_asked}
use Rattle.clean_streams.specs.Commands.{Command, lv1, bcr, ecr, cal, sync, code_of, command_kind, width_of}
use Rattle.clean_streams.specs.CleanStreams.{zeros}
use Rattle.patterns.specs.Verdict.{Verdict}
use Rattle.patterns.specs.Verdict.{Unknown, Cut, TooClose}
use Rattle.patterns.specs.Patterns.{unknown, cut, pattern_of}
use Rattle.patterns.specs.Verdicts.{verdict_from}

-- Zeros are passed, and counted.
pub zeros_passed : (n last ahead place : ℕ) (bits : List ℕ)
    → verdict_from last ahead place 0 (zeros n ++ bits) ≡ verdict_from last (ahead + n) (place + n) 0 bits
unfolding verdict_from
zeros_passed zero last ahead place bits = rw (add-zero ahead, add-zero place)
zeros_passed (suc n) last ahead place bits =
    let e : suc ahead + n ≡ ahead + suc n = omega arith in
    let f : suc place + n ≡ place + suc n = omega arith in
    zeros_passed n last (suc ahead) (suc place) bits ∙ (λ i. verdict_from last (e i) (f i) 0 bits)

-- A whole command is in time, and the bits behind it are judged; or it is not.
module _ (last ahead place : ℕ) (bits : List ℕ) where
  abbrev behind : Command → ℕ → Verdict
  behind c at = cond (leb (zeros_asked last (command_kind c)) ahead) (verdict_from (command_kind c) 0 at 0 bits) (TooClose place)

  pub command_judged : (c : Command) → verdict_from last ahead place 0 (code_of c ++ bits) ≡ behind c (place + width_of c)
  unfolding verdict_from
  command_judged lv1 = ap (behind lv1) (omega arith)
  command_judged bcr = ap (behind bcr) (omega arith)
  command_judged ecr = ap (behind ecr) (omega arith)
  command_judged cal = ap (behind cal) (omega arith)
  command_judged sync = ap (behind sync) (omega arith)

  -- A pattern that is no whole command.
  pub unknown_judged : (n : ℕ) → pattern_of (suc n ∷ bits) ≡ unknown → verdict_from last ahead place 0 (suc n ∷ bits) ≡ Unknown place
  unfolding verdict_from
  unknown_judged n e = rw e

  pub cut_judged : (n : ℕ) → pattern_of (suc n ∷ bits) ≡ cut → verdict_from last ahead place 0 (suc n ∷ bits) ≡ Cut place
  unfolding verdict_from
  cut_judged n e = rw e
