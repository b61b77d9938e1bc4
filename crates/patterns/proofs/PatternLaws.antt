-- A pattern and more bits behind it: an unknown one stays unknown, a whole command is one whatever follows, and its bits are the command's.
-- Assumes nothing.
use mathlib.Core.Path.{◌≡◌, refl, sym, ap}
use mathlib.Core.Bool.{Bool, true, false, cond}
use mathlib.Core.List.{List, [], ◌∷◌, ◌++◌}
use mathlib.Core.Logic.{◌⊎◌, inl, inr, ⊎_elim}
use Prim.Native.Nat.{ℕ}
use native.Mathlib.Omega.{arith}
use lib.Dec.{eqb}
use lib.ListN.{length, drop}
use borrow.Author.Tests.{eqb-true}
use Rattle.bits.proofs.Truth.{both, clash, not_both, not_other}
use Rattle.clean_streams.specs.Commands.{Command, lv1, bcr, ecr, cal, sync, code_of}
use Rattle.patterns.specs.Patterns.{agrees, holds, Pattern, unknown, cut, whole, pattern_among, pattern_of}

-- Bits that have a whole code are the code and what follows it.
pub held_whole : (code bits : List ℕ) → holds code bits ≡ true → bits ≡ code ++ drop (length code) bits
held_whole [] bits h = refl
held_whole (c ∷ code) [] h = clash h refl
held_whole (c ∷ code) (bit ∷ bits) h =
    let s = both (eqb c bit) (holds code bits) h in
    (λ i. sym (eqb-true c bit s.0) i ∷ held_whole code bits s.1 i)

-- Bits that differ from a code do so whatever follows them.
differs : (code bits more : List ℕ) → agrees code bits ≡ false → agrees code (bits ++ more) ≡ false
differs [] bits more h = clash refl h
differs (c ∷ code) [] more h = clash refl h
differs (c ∷ code) (bit ∷ bits) more h = not_both (eqb c bit) _ (λ t. differs code bits more (not_other (eqb c bit) _ h t))

-- Which case a pattern is; no two cases are equal.
abbrev case : Pattern → ℕ
case unknown = 0
case cut = 1
case (whole c) = 2

-- One command's part of a pattern, by its two tests.
abbrev among : Bool → Bool → Command → Pattern → Pattern
among a b c rest = cond a (cond b (whole c) cut) rest

unknown_by : (a b : Bool) (c : Command) (rest : Pattern) → among a b c rest ≡ unknown → (a ≡ false) × (rest ≡ unknown)
unknown_by true true c rest h = let z : ◌≡◌ {A = ℕ} 2 0 = ap case h in absurd (omega arith)
unknown_by true false c rest h = let z : ◌≡◌ {A = ℕ} 1 0 = ap case h in absurd (omega arith)
unknown_by false b c rest h = (refl, h)

whole_by : (a b : Bool) (d c : Command) (rest : Pattern) → among a b d rest ≡ whole c → ((b ≡ true) × (d ≡ c)) ⊎ (rest ≡ whole c)
whole_by true true d c rest h = inl (refl, (let p : d ≡ c = cc in p))
whole_by true false d c rest h = let z : ◌≡◌ {A = ℕ} 1 2 = ap case h in absurd (omega arith)
whole_by false b d c rest h = inr h

module _ (bits : List ℕ) where
  pub unknown_more : (more : List ℕ) (cs : List Command) → pattern_among cs bits ≡ unknown → pattern_among cs (bits ++ more) ≡ unknown
  unknown_more more [] h = refl
  unknown_more more (c ∷ cs) h =
      let s = unknown_by (agrees (code_of c) bits) (holds (code_of c) bits) c (pattern_among cs bits) h in
      rw (differs (code_of c) bits more s.0) (unknown_more more cs s.1)

  -- A whole command's bits are its code, and what follows.
  pub whole_holds : (cs : List Command) (c : Command) → pattern_among cs bits ≡ whole c → holds (code_of c) bits ≡ true
  whole_holds [] c h = let z : ◌≡◌ {A = ℕ} 0 2 = ap case h in absurd (omega arith)
  whole_holds (d ∷ ds) c h =
      ⊎_elim (λ s. rw (← s.1) s.0) (whole_holds ds c)
      (whole_by (agrees (code_of d) bits) (holds (code_of d) bits) d c (pattern_among ds bits) h)

-- A command's code, whatever follows it.
pub code_whole : (c : Command) (more : List ℕ) → pattern_of (code_of c ++ more) ≡ whole c
code_whole lv1 more = refl
code_whole bcr more = refl
code_whole ecr more = refl
code_whole cal more = refl
code_whole sync more = refl
