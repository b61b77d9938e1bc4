-- `Progress::step` takes one bit more, by what the pattern is with it.
-- Assumes nothing.
use mathlib.Core.List.{[], ◌∷◌}
use mathlib.Core.Path.{◌≡◌, sym, ap, subst}
use Prim.Native.Nat.{ℕ, ◌+◌, ◌*◌, ◌/◌, ◌<◌}
use native.Mathlib.Omega.{arith}
use Rattle.acceptance.specs.declared.Progress.{Progress}
use Rattle.acceptance.specs.Progress.{UnderWay, After, Fits, progress}
use Rattle.acceptance.proofs.PatternNumbers.{bit_more}
use Rattle.acceptance.proofs.Steps.{zero_after, begun_after, unknown_after, whole_after}
use Rattle.acceptance.proofs.Progress.step.Goals as goal

-- The pattern with the bit.
abbrev longer : Progress → ℕ → ℕ
longer p bit = p.pattern * 2 + bit

narrow : (p : Progress) (bit : ℕ) → bit < 2 → Fits p → longer p bit < 512
narrow p bit b f = let n = f.narrow in omega arith

half : (p : Progress) (bit : ℕ) → bit < 2 → longer p bit / 2 ≡ p.pattern
half p bit b = omega arith

some : (p : Progress) (bit : ℕ) → (longer p bit ≡ 0 → ⊥) → 0 < longer p bit
some p bit n = omega (arith, n)

pub returns-then-pattern-eq0 : goal.returns-then-pattern-eq0
returns-then-pattern-eq0 c =
    let p = c.args.self in
    let e = c.if-pattern-eq0.true in
    let none : 0 ≡ p.pattern = omega (arith, e) in
    subst (After p (c.args.bit ∷ [])) (λ i. progress (p.place + 1) (p.zeros + 1) p.last (none i) (sym c.requires.2 i))
    (zero_after p c.requires.2 c.requires.3 c.args.bit (omega (arith, e)) (omega (arith, e)))

pub read_pattern-requires : goal.read_pattern-requires
read_pattern-requires c =
    let p = c.args.self in
    let b = c.args.bit in
    (some p b c.if-pattern-eq0.false, narrow p b c.requires.0 c.requires.3, subst UnderWay (sym (half p b c.requires.0)) c.requires.3.pattern)

pub returns-in-Begun : goal.returns-in-Begun
returns-in-Begun c =
    let p = c.args.self in
    let n = some p c.args.bit c.if-pattern-eq0.false in
    subst (After p (c.args.bit ∷ [])) (ap (progress p.place p.zeros p.last (longer p c.args.bit)) (sym c.requires.2))
    (begun_after p c.requires.2 c.requires.3 (longer p c.args.bit) c.args.bit (bit_more _ _ c.requires.3.narrow c.requires.0 n)
    c.in-Begun.ensures.0 c.in-Begun.ensures.1)

pub returns-in-Whole : goal.returns-in-Whole
returns-in-Whole c =
    let p = c.args.self in
    let u = c.in-Whole.ensures in
    let n = some p c.args.bit c.if-pattern-eq0.false in
    subst (After p (c.args.bit ∷ [])) (sym (c.completed.ensures u.0 u.2))
    (whole_after p c.requires.2 c.requires.3 (longer p c.args.bit) c.args.bit (bit_more _ _ c.requires.3.narrow c.requires.0 n) u.0 u.1)

pub returns-in-Unknown : goal.returns-in-Unknown
returns-in-Unknown c =
    let p = c.args.self in
    let n = some p c.args.bit c.if-pattern-eq0.false in
    subst (After p (c.args.bit ∷ [])) (sym c.refused.ensures)
    (unknown_after p c.requires.2 c.requires.3 (longer p c.args.bit) c.args.bit (bit_more _ _ c.requires.3.narrow c.requires.0 n) n
    (narrow p c.args.bit c.requires.0 c.requires.3) c.in-Unknown.ensures)
