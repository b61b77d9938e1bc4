-- Patterns as numbers: a bit more, the first bit, and what a number that is no beginning and no whole command is. Computed.
-- Assumes nothing.
use mathlib.Core.Path.{◌≡◌, refl}
use mathlib.Core.Bool.{Bool, true, false, cond, not, ◌&&◌, ◌||◌}
use mathlib.Core.List.{List, [], ◌∷◌, ◌++◌}
use mathlib.Core.Logic.{inl, inr}
use Prim.Native.Nat.{ℕ, zero, suc, ◌+◌, ◌*◌, ◌/◌, ◌%◌, ◌^◌, ◌<◌}
use native.Mathlib.Omega.{arith}
use lib.Count.{ones, ones_in}
use lib.Dec.{ltb, leb, eqb}
use lib.ListN.{drop}
use borrow.Author.Tests.{eqb-true, ltb-true, ne_eqb}
use Rattle.bits.proofs.Below.{below_at}
use Rattle.bits.proofs.Truth.{clash, both, or_right}
use Rattle.clean_streams.specs.Commands.{Command, lv1, bcr, ecr, cal, sync, code_of, command_kind}
use Rattle.patterns.specs.Patterns.{Pattern, unknown, cut, whole, pattern_of}
use Rattle.acceptance.specs.declared.Reading.{Reading}
use Rattle.acceptance.specs.declared.Reading.TheVariants.{Begun, Whole, Unknown}
use Rattle.acceptance.specs.Progress.{pattern_bits, UnderWay, Reads}

-- A bit more at the end.
pub one_more : (n : ℕ) → n < 256 → pattern_bits (n * 2 + 1) ≡ pattern_bits n ++ (1 ∷ [])
one_more = below_at 256 (λ n. pattern_bits (n * 2 + 1)) (λ n. pattern_bits n ++ (1 ∷ [])) refl

zero_more : (n : ℕ) → n < 255 → pattern_bits (suc n * 2 + 0) ≡ pattern_bits (suc n) ++ (0 ∷ [])
zero_more = below_at 255 (λ n. pattern_bits (suc n * 2 + 0)) (λ n. pattern_bits (suc n) ++ (0 ∷ [])) refl

pub bit_more : (n bit : ℕ) → n < 256 → bit < 2 → 0 < n * 2 + bit → pattern_bits (n * 2 + bit) ≡ pattern_bits n ++ (bit ∷ [])
bit_more zero zero h b s = absurd (omega arith)
bit_more (suc n) zero h b s = zero_more n (omega arith)
bit_more n (suc zero) h b s = one_more n h
bit_more n (suc (suc bit)) h b s = absurd (omega arith)

-- A pattern begins with a 1.
pub first_one : (n : ℕ) → 0 < n → n < 512 → pattern_bits n ≡ 1 ∷ drop 1 (pattern_bits n)
first_one zero s h = absurd (omega arith)
first_one (suc n) s h = below_at 511 (λ k. pattern_bits (suc k)) (λ k. 1 ∷ drop 1 (pattern_bits (suc k))) refl n (omega arith)

-- Which case a pattern is.
abbrev case : Pattern → ℕ
case unknown = 0
case cut = 1
case (whole c) = 2

case_unknown : (p : Pattern) → case p ≡ 0 → p ≡ unknown
case_unknown unknown e = refl
case_unknown cut e = absurd (omega arith)
case_unknown (whole c) e = absurd (omega arith)

case_cut : (p : Pattern) → case p ≡ 1 → p ≡ cut
case_cut unknown e = absurd (omega arith)
case_cut cut e = refl
case_cut (whole c) e = absurd (omega arith)

-- What the code answers.
abbrev pub read_by : ℕ → Reading
read_by n =
    cond (ltb n 32) (cond (eqb n 0b11101) (Whole 0x01) (cond (eqb (4212910 / 2 ^ n % 2) 1) Begun Unknown))
    (cond (ltb n 256) (cond (leb (ones n) 4) Begun Unknown) (cond (eqb (ones n) 4) (Whole (0x10 + n % 16)) Unknown))

-- Whether that is what the bits are, as a test.
abbrev command_at : ℕ → Command
command_at kind = cond (eqb kind 0x01) lv1 (cond (eqb kind 0x11) bcr (cond (eqb kind 0x12) ecr (cond (eqb kind 0x14) cal sync)))

abbrev same : List ℕ → List ℕ → Bool
same [] [] = true
same [] (y ∷ ys) = false
same (x ∷ xs) [] = false
same (x ∷ xs) (y ∷ ys) = eqb x y && same xs ys

abbrev checks : ℕ → Reading → Bool
checks n Begun = ltb n 256 && eqb (case (pattern_of (pattern_bits n))) 1
checks n (Whole kind) = same (pattern_bits n) (code_of (command_at kind)) && eqb kind (command_kind (command_at kind))
checks n Unknown = eqb (case (pattern_of (pattern_bits n))) 0

same_lists : (xs ys : List ℕ) → same xs ys ≡ true → xs ≡ ys
same_lists [] [] e = refl
same_lists [] (y ∷ ys) e = clash e refl
same_lists (x ∷ xs) [] e = clash e refl
same_lists (x ∷ xs) (y ∷ ys) e =
    let s = both (eqb x y) (same xs ys) e in
    λ i. eqb-true x y s.0 i ∷ same_lists xs ys s.1 i

checked : (n : ℕ) (r : Reading) → checks n r ≡ true → Reads n r
checked n Begun e =
    let s = both (ltb n 256) _ e in
    (ltb-true n 256 s.0, case_cut _ (eqb-true _ 1 s.1))
checked n (Whole kind) e =
    let s = both (same (pattern_bits n) (code_of (command_at kind))) _ e in
    (command_at kind, same_lists _ _ s.0, eqb-true kind _ s.1)
checked n Unknown e = case_unknown _ (eqb-true _ 0 e)

-- Of each number below 512 but 0 whose half is under way.
abbrev begun : ℕ → Bool
begun n = eqb n 0 || eqb (case (pattern_of (pattern_bits n))) 1

begun_under_way : (n : ℕ) → UnderWay n → begun n ≡ true
begun_under_way n (inl e) = rw e
begun_under_way n (inr e) = or_right (eqb n 0) _ (rw e)

abbrev answered : ℕ → Bool
answered n = eqb n 0 || (not (begun (n / 2)) || checks n (read_by n))

all_answered : (n : ℕ) → n < 512 → answered n ≡ true
unfolding ones ones_in
all_answered = below_at 512 answered (λ n. true) refl

pub reads : (n : ℕ) → 0 < n → n < 512 → UnderWay (n / 2) → Reads n (read_by n)
reads n s h u =
    let none : eqb n 0 ≡ false = ne_eqb n 0 (λ e. absurd (omega arith)) in
    let e : checks n (read_by n) ≡ true = rw (none, begun_under_way (n / 2) u) at (all_answered n h) in
    checked n (read_by n) e
