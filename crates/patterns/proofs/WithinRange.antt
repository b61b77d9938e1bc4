-- A place lies within its stream.
-- Assumes nothing.
use mathlib.Core.List.{List, [], ◌∷◌}
use Prim.Native.Nat.{ℕ, zero, suc, ◌+◌, ◌*◌, ◌-◌, ◌≤◌}
use native.Mathlib.Omega.{arith}
use lib.Dec.{leb}
use lib.ListN.{length}
use borrow.Author.Tests.{leb-true}
use Rattle.limits.specs.Limits.{input_limit}
use Rattle.bits.specs.Bits.{bits_of}
use Rattle.bits.specs.Range.{range_fits}
use Rattle.bits.proofs.BitRanges.{length_bits}
use Rattle.bits.proofs.Truth.{both, choice}
use Rattle.timing.specs.Table.{zeros_asked}
use Rattle.clean_streams.specs.Commands.{Command, command_kind, width_of}
use Rattle.patterns.specs.Verdict.{Verdict}
use Rattle.patterns.specs.Patterns.{Pattern, unknown, cut, whole, pattern_of}
use Rattle.patterns.specs.Verdicts.{verdict_place, judged, verdict_from, accept_of}

-- By the pattern at a place, where what is said of the rest lies behind it.
judged_near : (last ahead place most : ℕ) (p : Pattern) (rest : Command → Verdict) → place ≤ most → ((c : Command) → verdict_place (rest c) ≤ most)
    → verdict_place (judged last ahead place p rest) ≤ most
judged_near last ahead place most unknown rest h r = h
judged_near last ahead place most cut rest h r = h
judged_near last ahead place most (whole c) rest h r =
    choice (λ (v : Verdict). verdict_place v ≤ most) (leb (zeros_asked last (command_kind c)) ahead) (λ _. r c) (λ _. h)

near : (bits : List ℕ) (last ahead place inside : ℕ) → verdict_place (verdict_from last ahead place inside bits) ≤ place + length bits
unfolding verdict_from
near [] last ahead place inside = omega arith
near (bit ∷ bits) last ahead place (suc inside) = omega (arith, near bits last ahead (suc place) inside)
near (zero ∷ bits) last ahead place zero = omega (arith, near bits last (suc ahead) (suc place) zero)
near (suc n ∷ bits) last ahead place zero =
    judged_near last ahead place (place + length (suc n ∷ bits)) (pattern_of (suc n ∷ bits)) _ (omega arith)
    (λ c. omega (arith, near bits (command_kind c) 0 (suc place) (width_of c - 1)))

-- Within the longest range.
pub accept_near : (input : List ℕ) (first count : ℕ) → verdict_place (accept_of input first count) ≤ 8 * input_limit
unfolding accept_of
accept_near input first count =
    choice (λ (v : Verdict). verdict_place v ≤ 8 * input_limit) (range_fits (length input) first count)
    (λ e.
    let s = both (leb (length input) input_limit) (leb (first + count) (8 * length input)) e in
    let short = leb-true (length input) input_limit s.0 in
    let inside = leb-true (first + count) (8 * length input) s.1 in
    omega (arith, near (bits_of input first count) 0 0 0 0, length_bits input first count, short, inside))
    (λ _. omega arith)
