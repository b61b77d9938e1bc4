-- Of words that fit, a record's line loses nothing: equal lines come from equal words.
-- Assumes nothing.
use mathlib.Core.Path.{◌≡◌, ◌∙◌, refl, sym, ap}
use mathlib.Core.Bool.{Bool, true, false}
use mathlib.Core.List.{List, ◌∷◌, ◌++◌}
use Prim.Native.Nat.{ℕ, zero, suc, ◌+◌, ◌*◌, ◌/◌, ◌%◌, ◌^◌, ◌<◌}
use native.Mathlib.Nat.{pow-suc}
use native.Mathlib.Omega.{arith}
use lib.Dec.{ltb}
use lib.ListN.{get_or, drop}
use borrow.Author.Tests.{ltb-true, ltb-false}
use Rattle.hex_digits.specs.Digits.{character_of, characters_of}
use Rattle.number_lines.specs.NumberLines.{numbers_line}
use Rattle.hex_digits.proofs.Digits.{digits_length, lowest_digit}
use Rattle.promises.specs.Records.{LinesTell}
use Rattle.promises.proofs.ListParts.{same_parts}

-- Different digits have different characters.
character_tells : (a b : ℕ) (low low' : Bool) → ltb a 10 ≡ low → ltb b 10 ≡ low' → a < 16 → b < 16 → character_of a ≡ character_of b → a ≡ b
character_tells a b true true e f h k c = let z = rw (e, f) at c in omega arith
character_tells a b true false e f h k c = let l = ltb-true a 10 e in let g = ltb-false b 10 f in let z = rw (e, f) at c in omega arith
character_tells a b false true e f h k c = let l = ltb-false a 10 e in let g = ltb-true b 10 f in let z = rw (e, f) at c in omega arith
character_tells a b false false e f h k c = let l = ltb-false a 10 e in let g = ltb-false b 10 f in let z = rw (e, f) at c in omega arith

-- Numbers that fit a width, by their digits.
digits_tell : (width n m : ℕ) → n < 16 ^ width → m < 16 ^ width → characters_of n width ≡ characters_of m width → n ≡ m
digits_tell zero n m h k e = omega arith
digits_tell (suc width) n m h k e =
    let h' : n < 16 ^ width * 16 = rw pow-suc at h in
    let k' : m < 16 ^ width * 16 = rw pow-suc at k in
    let p =
    same_parts (characters_of (n / 16) width) (characters_of (m / 16) width) _ _
    (digits_length (n / 16) width ∙ sym (digits_length (m / 16) width)) (sym (lowest_digit n width) ∙ e ∙ lowest_digit m width) in
    let high = digits_tell width (n / 16) (m / 16) (omega arith) (omega arith) p.first in
    let low =
    character_tells (n % 16) (m % 16) (ltb (n % 16) 10) (ltb (m % 16) 10) refl refl (omega arith) (omega arith)
    (ap (λ (l : List ℕ). get_or l 0 0) p.rest) in
    omega (arith, high, low)

-- A number and what follows its separator.
record Told (n m : ℕ) (us vs : List ℕ) : Type 0 where
  number : n ≡ m
  rest : us ≡ vs

told : (width n m s : ℕ) (us vs : List ℕ) → n < 16 ^ width → m < 16 ^ width
    → characters_of n width ++ (s ∷ us) ≡ characters_of m width ++ (s ∷ vs) → Told n m us vs
told width n m s us vs h k e =
    let p = same_parts (characters_of n width) (characters_of m width) (s ∷ us) (s ∷ vs) (digits_length n width ∙ sym (digits_length m width)) e in
    record { number = digits_tell width n m h k p.first; rest = ap (λ (l : List ℕ). drop 1 l) p.rest }

abbrev head_by : ℕ → ℕ → ℕ → ℕ
head_by time kind flags = time * 65536 + kind * 256 + flags

whole : (head : ℕ) → head ≡ head_by (head / 65536) (head / 256 % 256) (head % 256)
whole head = omega arith

pub lines_tell : LinesTell
unfolding numbers_line
lines_tell head value head' value' f g e =
    let time = told 12 (head / 65536) (head' / 65536) _ _ _ f.0 g.0 e in
    let kind = told 2 (head / 256 % 256) (head' / 256 % 256) _ _ _ (omega arith) (omega arith) time.rest in
    let flags = told 2 (head % 256) (head' % 256) _ _ _ (omega arith) (omega arith) kind.rest in
    let last = told 8 value value' _ _ _ f.1 g.1 flags.rest in
    (whole head ∙ (λ i. head_by (time.number i) (kind.number i) (flags.number i)) ∙ sym (whole head'), last.number)
