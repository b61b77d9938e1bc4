-- `accept` is the verdict on a range, from a stream's start to its end.
-- Assumes nothing.
use mathlib.Core.Bool.{true, false}
use mathlib.Core.List.{List, [], ◌++◌}
use mathlib.Core.Path.{◌≡◌, ◌∙◌, sym, ap, subst}
use Prim.Native.Nat.{ℕ}
use native.Mathlib.Omega.{arith}
use lib.ListN.{length}
use Rattle.bits.specs.Bits.{bits_of}
use Rattle.bits.specs.Range.{range_fits}
use Rattle.patterns.specs.Verdict.{WrongRange}
use Rattle.patterns.specs.Verdicts.{verdict_of, accept_of}
use Rattle.acceptance.specs.declared.Progress.{Progress}
use Rattle.acceptance.specs.Progress.{Fits, verdict_on}
use Rattle.acceptance.proofs.Steps.{start_fits, from_start}
use Rattle.acceptance.proofs.accept.Goals as goal

-- A range that fits, and one that does not.
module _ (input : List ℕ) (first count : ℕ) where
  rejected : range_fits (length input) first count ≡ false → WrongRange ≡ accept_of input first count
  unfolding accept_of
  rejected e = simp e

  judged : range_fits (length input) first count ≡ true → verdict_of (bits_of input first count) ≡ accept_of input first count
  unfolding accept_of
  judged e = simp e

pub returns-then-not-range_fits : goal.returns-then-not-range_fits
returns-then-not-range_fits c = rejected _ _ _ (sym c.range_fits.ensures ∙ c.if-not-range_fits.true)

pub check-progress-requires : goal.check-progress-requires
check-progress-requires c =
    let e = c.start.ensures in
    (sym c.range_fits.ensures ∙ c.if-not-range_fits.false, rw e (omega arith), subst Fits (sym e) start_fits)

pub returns : goal.returns
returns c =
    let a = c.args in
    let bits = bits_of a.input.now a.first a.count in
    c.verdict.ensures
    ∙ c.check-progress.ensures.same []
    ∙ ap (λ (p : Progress). verdict_on p (bits ++ [])) c.start.ensures
    ∙ from_start bits
    ∙ judged a.input.now a.first a.count (sym c.range_fits.ensures ∙ c.if-not-range_fits.false)
