-- One inverted bit is a case of any number of them.
-- Assumes nothing.
use mathlib.Core.Path.{◌≡◌, ◌∙◌, refl, sym, ap}
use mathlib.Core.Bool.{Bool}
use mathlib.Core.List.{List, [], ◌∷◌, ◌++◌}
use mathlib.Core.Logic.{⊎_elim}
use Prim.Native.Nat.{ℕ, ◌+◌, ◌-◌, ◌<◌}
use native.Mathlib.Omega.{arith}
use lib.Dec.{eqb, ltb, ltb→lt, nltb→le}
use lib.ListN.{length}
use borrow.Author.Tests.{eqb-true, eq-eqb, ne_eqb}
use Rattle.bits.proofs.Truth.{cases, clash, holds_true, cond_case}
use Rattle.clean_streams.specs.CleanStreams.{Item, item_size}
use Rattle.damage.specs.Inverted.{inverted}
use Rattle.damage.specs.Table.{Replacement, itself, replacement_of}
use Rattle.damage.specs.Hits.{HitCycles, inverted_at, stands_in, Apart}
use Rattle.damage.specs.Records.{Ahead, item_records, item_ahead, clean_records, replacement_records, replacement_ahead, damaged_records, hit_records}
use Rattle.damage.proofs.HitPlaces.{Missed, Once, only, only_itself, only_one, inverted_once}
use Rattle.damage.proofs.HitItems.{missed_stands, once_stands}

-- The bit of one cycle.
abbrev pub one_hit : ℕ → HitCycles
one_hit cycle m = eqb m cycle

-- Of any bits, bit k alone.
one_once : (n m k : ℕ) → Once (one_hit (n + k)) n m k
one_once n m k j h =
    ⊎_elim (λ e. eq-eqb (n + j) (n + k) (ap (λ l. n + l) (only_one k j e)) ∙ sym e)
    (λ e. ne_eqb (n + j) (n + k) (λ same. let z : j ≡ k = omega arith in clash (rw z (only_itself k)) e) ∙ sym e)
    (cases (only k j))

-- Ahead of it and behind it none.
one_missed : (cycle n m : ℕ) → ((j : ℕ) → j < m → n + j ≡ cycle → ⊥) → Missed (one_hit cycle) n m
one_missed cycle n m other j h = ne_eqb (n + j) cycle (other j h)

pub one_inverted : (n k : ℕ) (bits : List ℕ) → inverted_at (one_hit (n + k)) n bits ≡ inverted k bits
one_inverted n k bits = inverted_once (one_hit (n + k)) n bits k (one_once n (length bits) k)

pub one_apart : (cycle n : ℕ) (is : List Item) (t : ℕ) → Apart (one_hit cycle) n is t
one_apart cycle n is t p q from before inside at_p at_q =
    let e = eqb-true p cycle (holds_true (eqb p cycle) at_p) in
    let f = eqb-true q cycle (holds_true (eqb q cycle) at_q) in
    absurd (omega arith)

module _ (sent : Bool) where
  -- an item in whose command's place x stands
  hit_first : (hits : HitCycles) (a : Ahead) (n : ℕ) (i : Item) (is : List Item) (x : Replacement) → stands_in hits n i ≡ x
      → hit_records sent hits a n (i ∷ is)
      ≡ replacement_records sent a (n + i.ahead) x ++ hit_records sent hits (replacement_ahead a (n + i.ahead) x) (n + item_size i) is
  hit_first hits a n i is x e =
      ap (λ x. replacement_records sent a (n + i.ahead) x ++ hit_records sent hits (replacement_ahead a (n + i.ahead) x) (n + item_size i) is) e

  passed : (cycle : ℕ) (a : Ahead) (n : ℕ) (is : List Item) → cycle < n → hit_records sent (one_hit cycle) a n is ≡ clean_records sent a n is
  passed cycle a n [] h = refl
  passed cycle a n (i ∷ is) h =
      hit_first (one_hit cycle) a n i is (itself i.command) (missed_stands (one_hit cycle) n i (one_missed cycle n (item_size i) (λ j l e. omega arith)))
      ∙ ap (λ l. item_records sent a n i ++ l) (passed cycle (item_ahead a n i) (n + item_size i) is (omega arith))

  pub one_records : (a : Ahead) (n : ℕ) (is : List Item) (k : ℕ) → hit_records sent (one_hit (n + k)) a n is ≡ damaged_records sent a n is k
  one_records a n [] k = refl
  one_records a n (i ∷ is) k =
      let hits = one_hit (n + k) in
      cond_case (λ l. hit_records sent hits a n (i ∷ is) ≡ l) (ltb k (item_size i))
      (λ b.
      let inside = ltb→lt k (item_size i) b in
      hit_first hits a n i is (replacement_of i k) (once_stands hits n i k inside (one_once n (item_size i) k))
      ∙ ap (λ l. replacement_records sent a (n + i.ahead) (replacement_of i k) ++ l) (passed (n + k) _ (n + item_size i) is (omega arith)))
      (λ b.
      let beyond = nltb→le k (item_size i) b in
      let z : n + k ≡ n + item_size i + (k - item_size i) = omega arith in
      hit_first hits a n i is (itself i.command) (missed_stands hits n i (one_missed (n + k) n (item_size i) (λ j l e. omega arith)))
      ∙ ap (λ c. item_records sent a n i ++ hit_records sent (one_hit c) (item_ahead a n i) (n + item_size i) is) z
      ∙ ap (λ l. item_records sent a n i ++ l) (one_records (item_ahead a n i) (n + item_size i) is (k - item_size i)))
