-- What stands in a command's place, by where the inverted bit lies; and a test of it, computed for every command and bit.
-- Assumes nothing.
use mathlib.Core.Path.{◌≡◌}
use mathlib.Core.Bool.{Bool, true, false, cond, not}
use Prim.Native.Nat.{ℕ, suc, ◌-◌, ◌<◌, ◌≤◌}
use native.Mathlib.Omega.{arith}
use lib.Dec.{ltb, T, ltb→lt, leb→le, nltb→le}
use Rattle.bits.proofs.Truth.{true_holds, and_right, cond_case}
use Rattle.bits.proofs.Below.{below, below_at}
use Rattle.clean_streams.specs.Commands.{Command, width_of, is_fast_command}
use Rattle.clean_streams.specs.CleanStreams.{Item, item_size}
use Rattle.damage.specs.Table.{own_bit, zero_ahead, Replacement, damage, hits_fast, itself, affected, replacement_of}
use Rattle.clean_streams.proofs.FiniteFacts.{each, each_at}

-- what stands in a command's place for a zero so far ahead of it
abbrev pub zero_damage : Command → ℕ → Replacement
zero_damage c distance = cond (hits_fast c distance) (damage c (zero_ahead distance)) (itself c)

-- by where the inverted bit lies
by_place : (P : Bool → Replacement → Type 0) (c : Command) (distance k : ℕ) (b : Bool) → (T b → P (hits_fast c distance) (zero_damage c distance))
    → (T (not b) → P true (damage c (own_bit k)))
    → P (cond b (hits_fast c distance) true) (cond (cond b (hits_fast c distance) true) (damage c (cond b (zero_ahead distance) (own_bit k))) (itself c))
by_place P c distance k true outside inside = outside tt
by_place P c distance k false outside inside = inside tt

pub replacement_cases : (P : Bool → Replacement → Type 0) (i : Item) (k : ℕ)
    → (k < i.ahead → P (hits_fast i.command (i.ahead - k)) (zero_damage i.command (i.ahead - k)))
    → (i.ahead ≤ k → P true (damage i.command (own_bit (suc (k - i.ahead))))) → P (affected i k) (replacement_of i k)
replacement_cases P i k outside inside =
    by_place P i.command (i.ahead - k) (suc (k - i.ahead)) (ltb k i.ahead)
    (λ b. outside (ltb→lt k i.ahead b)) (λ b. inside (nltb→le k i.ahead b))

-- A zero so far ahead of a command does not hit it.
abbrev too_far : ℕ
too_far = 3

-- A test that passes for each command itself, for each of its bits inverted, and for the zeros ahead of it that are not too far.
pub record Passes (test : Command → Replacement → Bool) : Type 0 where
  pub own : each (λ c. test c (itself c)) ≡ each (λ c. true)
  pub hit : each (λ c. below (width_of c) (λ k. test c (damage c (own_bit (suc k))))) ≡ each (λ c. below (width_of c) (λ k. true))
  pub near : each (λ c. below too_far (λ d. test c (damage c (zero_ahead d)))) ≡ each (λ c. below too_far (λ d. true))

-- It passes for what stands in any command's place.
module _ (test : Command → Replacement → Bool) (passes : Passes test) where
  pub own_passes : (c : Command) → T (test c (itself c))
  own_passes c = true_holds _ (each_at (λ c. test c (itself c)) (λ c. true) passes.own c)

  hit_passes : (c : Command) (k : ℕ) → k < width_of c → T (test c (damage c (own_bit (suc k))))
  hit_passes c k h =
      true_holds _
      (below_at (width_of c) (λ k. test c (damage c (own_bit (suc k)))) (λ k. true)
      (each_at (λ c. below (width_of c) (λ k. test c (damage c (own_bit (suc k))))) (λ c. below (width_of c) (λ k. true)) passes.hit c) k h)

  near_passes : (c : Command) (distance : ℕ) → distance < too_far → T (test c (damage c (zero_ahead distance)))
  near_passes c distance h =
      true_holds _
      (below_at too_far (λ d. test c (damage c (zero_ahead d))) (λ d. true)
      (each_at (λ c. below too_far (λ d. test c (damage c (zero_ahead d)))) (λ c. below too_far (λ d. true)) passes.near c) distance h)

  ahead_passes : (c : Command) (distance : ℕ) → T (test c (zero_damage c distance))
  ahead_passes c distance =
      cond_case (λ x. T (test c x)) (hits_fast c distance) {x = damage c (zero_ahead distance)} {y = itself c}
      (λ t. let h = leb→le distance _ (and_right (is_fast_command c) _ t) in near_passes c distance (omega arith))
      (λ _. own_passes c)

  pub replacement_passes : (i : Item) (k : ℕ) → k < item_size i → T (test i.command (replacement_of i k))
  replacement_passes i k h =
      replacement_cases (λ _ x. T (test i.command x)) i k
      (λ _. ahead_passes i.command (i.ahead - k))
      (λ inside. hit_passes i.command (k - i.ahead) (omega arith))
