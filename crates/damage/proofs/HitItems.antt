-- What inverted bits make of an item: with none its command stands for itself, with one what stands in its place is what the damage table says of that bit.
-- Assumes nothing.
use mathlib.Core.Path.{◌≡◌, ◌∙◌, sym, ap}
use mathlib.Core.Bool.{Bool, true, false, ◌&&◌}
use mathlib.Core.Logic.{◌⊎◌, ⊎_elim}
use Prim.Native.Nat.{ℕ, zero, suc, ◌+◌, ◌<◌}
use native.Mathlib.Nat.{le_of_suc-le-suc, not-suc-le-zero}
use native.Mathlib.Omega.{arith}
use lib.Dec.{T}
use borrow.Author.Tests.{lt-ltb, ltb-true}
use Rattle.bits.proofs.Truth.{clash, cases, both}
use Rattle.clean_streams.specs.Commands.{Command}
use Rattle.clean_streams.specs.CleanStreams.{Item, item_size}
use Rattle.damage.specs.Table.{Replacement, itself, affected, replacement_of}
use Rattle.damage.specs.Hits.{HitCycles, first_below, affecting, affected_by, stands_in}
use Rattle.damage.proofs.Replacements.{Passes, own_passes, replacement_passes}
use Rattle.damage.proofs.HitPlaces.{Missed, Once, only_itself, only_one}

-- The first that passes a test passes it, and there is one where one passes.
pub first_passes : (m : ℕ) (test : ℕ → Bool) → first_below m test < m → test (first_below m test) ≡ true
first_passes zero test h = absurd (not-suc-le-zero h)
first_passes (suc m) test h =
    ⊎_elim (λ now. rw now now)
    (λ later. rw later (first_passes m (λ k. test (suc k)) (let g = rw later at h in le_of_suc-le-suc g)))
    (cases (test 0))

pub first_found : (m : ℕ) (test : ℕ → Bool) (k : ℕ) → k < m → test k ≡ true → first_below m test < m
first_found zero test k h e = absurd (not-suc-le-zero h)
first_found (suc m) test zero h e = rw e (omega arith)
first_found (suc m) test (suc k) h e =
    ⊎_elim (λ now. rw now (omega arith))
    (λ later. let g = first_found m (λ k. test (suc k)) k (le_of_suc-le-suc h) e in rw later (omega arith))
    (cases (test 0))

-- An affected command, and the inverted bit that affects it.
module _ (hits : HitCycles) (n : ℕ) (i : Item) where
  abbrev affects : ℕ → Bool
  affects k = hits (n + k) && affected i k

  pub record Affected : Type 0 where
    pub inside : affecting hits n i < item_size i
    pub hit : hits (n + affecting hits n i) ≡ true
    pub told : affected i (affecting hits n i) ≡ true

  pub affected_by_lem : affected_by hits n i ≡ true → Affected
  affected_by_lem e =
      let inside = ltb-true (affecting hits n i) (item_size i) e in
      let passes = both (hits (n + affecting hits n i)) _ (first_passes (item_size i) affects inside) in
      record { inside = inside; hit = passes.0; told = passes.1 }

  pub affected_found : (k : ℕ) → k < item_size i → hits (n + k) ≡ true → affected i k ≡ true → affected_by hits n i ≡ true
  affected_found k h hit told =
      lt-ltb (affecting hits n i) (item_size i) (first_found (item_size i) affects k h (rw (hit, told)))

  -- none
  pub missed_spared : Missed hits n (item_size i) → affected_by hits n i ≡ false
  missed_spared missed =
      ⊎_elim (λ e. let a = affected_by_lem e in clash a.hit (missed _ a.inside)) (λ e. e) (cases (affected_by hits n i))

  pub missed_stands : Missed hits n (item_size i) → stands_in hits n i ≡ itself i.command
  missed_stands missed = rw (missed_spared missed)

  -- bit k alone
  module _ (k : ℕ) (inside : k < item_size i) (once : Once hits n (item_size i) k) where
    at_once : Affected → affecting hits n i ≡ k
    at_once a = only_one k _ (sym (once _ a.inside) ∙ a.hit)

    pub once_affected : affected_by hits n i ≡ affected i k
    once_affected =
        ⊎_elim (λ e. let a = affected_by_lem e in e ∙ sym (ap (affected i) (sym (at_once a)) ∙ a.told))
        (λ e. e ∙ sym (⊎_elim (λ told. clash (affected_found k inside (once k inside ∙ only_itself k) told) e) (λ safe. safe) (cases (affected i k))))
        (cases (affected_by hits n i))

    pub once_stands : stands_in hits n i ≡ replacement_of i k
    once_stands =
        ⊎_elim
        (λ e. let told : affected i k ≡ true = sym once_affected ∙ e in rw (e, told, at_once (affected_by_lem e)))
        (λ e. let safe : affected i k ≡ false = sym once_affected ∙ e in rw (e, safe))
        (cases (affected_by hits n i))

-- A test that passes for what the table puts in a command's place, and for the command itself, passes for what stands there.
pub stands_passes : (test : Command → Replacement → Bool) → Passes test → (hits : HitCycles) (n : ℕ) (i : Item) → T (test i.command (stands_in hits n i))
stands_passes test passes hits n i =
    ⊎_elim
    (λ e.
    let a = affected_by_lem hits n i e in
    let x : replacement_of i (affecting hits n i) ≡ stands_in hits n i = rw (e, a.told) in
    rw (← x) (replacement_passes test passes i (affecting hits n i) a.inside))
    (λ e. rw e (own_passes test passes i.command))
    (cases (affected_by hits n i))
