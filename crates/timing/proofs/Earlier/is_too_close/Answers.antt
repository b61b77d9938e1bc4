-- `is_too_close` tests without subtraction.
-- Assumes nothing.
use mathlib.Core.Bool.{true}
use mathlib.Core.Path.{◌≡◌, ◌∙◌, sym}
use mathlib.Core.Logic.{⊎_elim}
use Prim.Native.Nat.{◌<◌}
use native.Mathlib.Omega.{arith}
use borrow.Author.Tests.{eq-eqb, ne_eqb, eqb-true, ltb-true}
use Rattle.limits.specs.Limits.{clock_limit}
use Rattle.bits.proofs.Truth.{either}
use Rattle.timing.specs.declared.Earlier.{Earlier}
use Rattle.timing.specs.TooClose.{earlier_below}
use Rattle.timing.proofs.Distance.{without_subtraction}
use Rattle.timing.proofs.Earlier.is_too_close.Goals as goal

time_low : (e : Earlier) → earlier_below e clock_limit ≡ true → (e.kind ≡ 0 → ⊥) → e.time < clock_limit
time_low e below some = ⊎_elim (λ t. absurd (some (eqb-true _ _ t))) (λ t. ltb-true _ _ t) (either _ _ below)

pub returns-then-self-eq0 : goal.returns-then-self-eq0
returns-then-self-eq0 c =
    let s = c in
    sym (without_subtraction s.args.self s.args.entry.time s.args.entry.kind s.args.cnt ∙ simp (eq-eqb _ _ c.if-self-eq0.true))

pub overflow_add-result : goal.overflow_add-result
overflow_add-result c =
    let n = c in
    let s = n in
    let low = time_low s.args.self s.requires n.if-self-eq0.false in
    omega (arith, n.cycles_back-length)

pub overflow_add-result-2 : goal.overflow_add-result-2
overflow_add-result-2 c =
    let n = c in
    let s = n in
    let low = time_low s.args.self s.requires n.if-self-eq0.false in
    omega (arith, n.cycles_back-length, c.zeros_asked)

pub returns : goal.returns
returns c =
    let z = c in
    let n = z in
    let s = n in
    sym (without_subtraction s.args.self s.args.entry.time s.args.entry.kind s.args.cnt
    ∙ simp (ne_eqb _ _ n.if-self-eq0.false, n.cycles_back-length.ensures.0, z.zeros_asked.ensures))
