-- `Progress::verdict` is what is said of a stream that ends here.
-- Assumes nothing.
use mathlib.Core.List.{[]}
use mathlib.Core.Logic.{⊎_elim}
use mathlib.Core.Path.{◌∙◌, sym}
use native.Mathlib.Omega.{arith}
use borrow.Author.Tests.{eq-eqb, ne_eqb}
use Rattle.acceptance.proofs.Steps.{at_fault, ends_clean, ends_cut}
use Rattle.acceptance.proofs.Progress.verdict.Goals as goal

pub returns-then-self-eq-UNKNOWN : goal.returns-then-self-eq-UNKNOWN
returns-then-self-eq-UNKNOWN c =
    let p = c.args.self in
    let e = c.if-self-eq-UNKNOWN.true in
    sym (at_fault p [] (λ n. absurd (omega (arith, e, n))) ∙ simp (eq-eqb p.fault 13 e))

pub returns-then-self-ne0 : goal.returns-then-self-ne0
returns-then-self-ne0 c =
    let l = c in
    let p = l.args.self in
    sym (at_fault p [] c.if-self-ne0.true ∙ simp (ne_eqb p.fault 13 l.if-self-eq-UNKNOWN.false))

pub returns-then-self-ne0-2 : goal.returns-then-self-ne0-2
returns-then-self-ne0-2 c =
    let l = c in
    let s = l in
    let f = s.requires in
    let n = c.if-self-ne0-2.true in
    ends_cut s.args.self l.if-self-ne0.false (omega (arith, n)) (omega (arith, f.narrow)) (⊎_elim (λ e. absurd (n e)) (λ e. e) f.pattern)

pub returns : goal.returns
returns c =
    let l = c in
    ends_clean l.args.self l.if-self-ne0.false c.if-self-ne0-2.false
