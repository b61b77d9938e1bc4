-- Groups one after another: the first of them, whole, and those behind it; and that votes are bits.
-- Assumes nothing.
use mathlib.Core.Bool.{◌||◌}
use mathlib.Core.List.{List, [], ◌∷◌, ◌++◌, append_assoc}
use mathlib.Core.Path.{◌≡◌, ◌∙◌, refl, ap}
use Prim.Native.Nat.{ℕ, zero, suc, ◌<◌}
use native.Mathlib.Omega.{arith}
use lib.Dec.{T, leb, ltb, ltb→lt, lt→ltb}
use lib.ListN.{length, get_or, take, drop, length-append, take-append-drop}
use lib.Seq.{take_at, drop_at}
use Rattle.bits.proofs.Truth.{and_both, and_left, cond_case}
use Rattle.bits.proofs.BitRanges.{binary, binary_ahead, binary_behind}
use Rattle.groups.specs.Vote.{ones_of, vote_of, unsteady, votes_of, some_unsteady}

-- Seven bits, the eighth, and more.
module _ (part : List ℕ) (bit : ℕ) (bits : List ℕ) (seven : length part ≡ 7) where
  whole : length (part ++ (bit ∷ [])) ≡ 8
  whole = length-append part (bit ∷ []) ∙ omega arith

  first : take 8 (part ++ (bit ∷ bits)) ≡ part ++ (bit ∷ [])
  first = rw append_assoc at (take_at (part ++ (bit ∷ [])) bits 8 whole)

  rest : drop 8 (part ++ (bit ∷ bits)) ≡ bits
  rest = rw append_assoc at (drop_at (part ++ (bit ∷ [])) bits 8 whole)

  pub votes_first : (n : ℕ) → votes_of (suc n) (part ++ (bit ∷ bits)) ≡ vote_of (part ++ (bit ∷ [])) ∷ votes_of n bits
  votes_first n = rw (first, rest)

  pub unsteady_first : (n : ℕ) → some_unsteady (suc n) (part ++ (bit ∷ bits)) ≡ (unsteady (part ++ (bit ∷ [])) || some_unsteady n bits)
  unsteady_first n = rw (first, rest)

-- Votes are bits, one for each group.
module _ (n : ℕ) (bits : List ℕ) (b : T (binary bits)) where
  both_parts : T (binary (take n bits ++ drop n bits))
  both_parts = rw (take-append-drop n bits) b

  pub binary_take : T (binary (take n bits))
  binary_take = binary_ahead (take n bits) (drop n bits) both_parts

  pub binary_drop : T (binary (drop n bits))
  binary_drop = binary_behind (take n bits) (drop n bits) both_parts

first_low : (group : List ℕ) → T (binary group) → get_or group 0 0 < 2
first_low [] b = omega arith
first_low (bit ∷ bits) b = ltb→lt bit 2 (and_left (ltb bit 2) (binary bits) b)

vote_low : (group : List ℕ) → T (binary group) → vote_of group < 2
vote_low group b =
    cond_case (λ v. v < 2) (leb 5 (ones_of group)) (λ _. omega arith)
    (λ _. cond_case (λ v. v < 2) (leb (ones_of group) 3) (λ _. omega arith) (λ _. first_low group b))

pub votes_binary : (n : ℕ) (bits : List ℕ) → T (binary bits) → T (binary (votes_of n bits))
votes_binary zero bits b = tt
votes_binary (suc n) bits b =
    and_both (ltb (vote_of (take 8 bits)) 2) _ (lt→ltb (vote_of (take 8 bits)) 2 (vote_low (take 8 bits) (binary_take 8 bits b)))
    (votes_binary n (drop 8 bits) (binary_drop 8 bits b))

pub votes_length : (n : ℕ) (bits : List ℕ) → length (votes_of n bits) ≡ n
votes_length zero bits = refl
votes_length (suc n) bits = ap suc (votes_length n (drop 8 bits))
