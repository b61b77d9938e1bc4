-- `read_pattern` answers what a pattern's bits are, by one computed test over all numbers.
-- Assumes nothing.
use mathlib.Core.Path.{◌≡◌, ◌∙◌, sym, subst}
use Prim.Native.Nat.{ℕ, ◌+◌, ◌/◌, ◌%◌, ◌^◌, ◌<◌}
use native.Mathlib.Omega.{arith}
use borrow.Author.Tests.{eq-eqb, ne_eqb, lt-ltb, le-ltb, le-leb, lt-leb}
use lib.Bits.{bit_and, and_mask}
use Rattle.acceptance.specs.declared.Reading.{Reading}
use Rattle.acceptance.specs.declared.Reading.TheVariants.{Begun, Whole, Unknown}
use Rattle.acceptance.specs.Progress.{Reads, UnderWay}
use Rattle.acceptance.proofs.PatternNumbers.{read_by, reads}
use Rattle.acceptance.proofs.read_pattern.Goals as goal

-- By what the code answers.
answer : (n : ℕ) → (0 < n) × (n < 512) × UnderWay (n / 2) → (r : Reading) → read_by n ≡ r → Reads n r
answer n h r e = subst (Reads n) e (reads n h.0 h.1 h.2)

-- The bit of a pattern's own number.
abbrev marked : ℕ → ℕ
marked n = 4212910 / 2 ^ n

-- The lowest four bits.
low : (n : ℕ) → bit_and n 15 ≡ n % 16
low n = and_mask n 4

pub returns-then-pattern-eq29 : goal.returns-then-pattern-eq29
returns-then-pattern-eq29 c =
    answer c.args.pattern c.requires (Whole 0x01) (simp (lt-ltb _ 32 c.if-pattern-lt32.true, eq-eqb _ _ c.if-pattern-eq29.true))

pub returns-then-pattern-eq1 : goal.returns-then-pattern-eq1
returns-then-pattern-eq1 c =
    let n = c.args.pattern in
    let e : marked n % 2 ≡ 1 = sym (and_mask (marked n) 1) ∙ c.if-pattern-eq1.true in
    answer n c.requires Begun (simp (lt-ltb _ 32 c.if-pattern-lt32.true, ne_eqb _ _ c.if-pattern-eq29.false, eq-eqb (marked n % 2) 1 e))

pub returns-then-pattern-lt32 : goal.returns-then-pattern-lt32
returns-then-pattern-lt32 c =
    let n = c.args.pattern in
    let e : marked n % 2 ≡ 1 → ⊥ = λ e. c.if-pattern-eq1.false (and_mask (marked n) 1 ∙ e) in
    answer n c.requires Unknown (simp (lt-ltb _ 32 c.if-pattern-lt32.true, ne_eqb _ _ c.if-pattern-eq29.false, ne_eqb (marked n % 2) 1 e))

pub returns-then-ones-le4 : goal.returns-then-ones-le4
returns-then-ones-le4 c =
    answer c.args.pattern c.requires Begun
    (simp (le-ltb _ 32 c.if-pattern-lt32.false, lt-ltb _ 256 c.if-pattern-lt256.true, le-leb _ 4 c.if-ones-le4.true))

pub returns-then-pattern-lt256 : goal.returns-then-pattern-lt256
returns-then-pattern-lt256 c =
    answer c.args.pattern c.requires Unknown
    (simp (le-ltb _ 32 c.if-pattern-lt32.false, lt-ltb _ 256 c.if-pattern-lt256.true, lt-leb _ 4 c.if-ones-le4.false))

pub overflow_cast-result : goal.overflow_cast-result
overflow_cast-result c = let e = low c.args.pattern in omega (arith, e)

pub overflow_add-result : goal.overflow_add-result
overflow_add-result c = let e = low c.args.pattern in omega (arith, e)

pub returns-then-ones-eq4 : goal.returns-then-ones-eq4
returns-then-ones-eq4 c =
    let n = c.args.pattern in
    subst (λ x. Reads n (Whole (0x10 + x))) (sym (low n))
    (answer n c.requires (Whole (0x10 + n % 16))
    (simp (le-ltb _ 32 c.if-pattern-lt32.false, le-ltb _ 256 c.if-pattern-lt256.false, eq-eqb _ 4 c.if-ones-eq4.true)))

pub returns : goal.returns
returns c =
    answer c.args.pattern c.requires Unknown
    (simp (le-ltb _ 32 c.if-pattern-lt32.false, le-ltb _ 256 c.if-pattern-lt256.false, ne_eqb _ 4 c.if-ones-eq4.false))
