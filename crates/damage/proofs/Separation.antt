-- Between any two inverted bits lies a whole command that none affects, exactly when each item has at most one, and none behind an affected command.
-- Assumes nothing.
use mathlib.Core.Path.{◌≡◌, ◌∙◌, sym}
use mathlib.Core.Bool.{Bool, true, false, cond, not}
use mathlib.Core.List.{List, [], ◌∷◌}
use mathlib.Core.Logic.{◌⊎◌, inl, inr, ⊎_elim}
use Prim.Native.Nat.{ℕ, zero, suc, ◌+◌, ◌-◌, ◌<◌, ◌≤◌}
use native.Mathlib.Omega.{arith}
use lib.Dec.{ltb, leb, T, leb→le, le→leb, ltb→lt}
use lib.ListN.{length, length-replicate}
use borrow.Author.Tests.{ltb-true, ltb-false}
use Rattle.bits.proofs.Truth.{clash, cases, and_both, and_left, and_right, holds_true, true_holds, cond_case}
use Rattle.clean_streams.specs.CleanStreams.{Item, zeros, item_size, stream_bits}
use Rattle.damage.specs.Table.{affected, hits_fast}
use Rattle.damage.specs.Hits.{HitCycles, affecting, affected_by, Spared, SomeSpared, Apart, hits_in, apart_by_items}
use Rattle.damage.proofs.StreamBits.{stream_length}
use Rattle.damage.proofs.HitPlaces.{among_at, only, only_one, counted, count_none, count_one}
use Rattle.damage.proofs.HitItems.{affected_by_lem, affected_found}

-- an inverted bit that affects no command lies among the zeros ahead of it
in_zeros : (i : Item) (k : ℕ) → T (not (affected i k)) → k < i.ahead
in_zeros i k =
    cond_case (λ b. T (not b) → k < i.ahead) (ltb k i.ahead) {x = hits_fast i.command (i.ahead - k)} {y = true} (λ b _. ltb→lt k i.ahead b)
    (λ _ safe. absurd safe)

module _ (hits : HitCycles) where
  -- m bits from cycle n on have no inverted one, or no two
  abbrev NoHit : ℕ → ℕ → Type 0
  NoHit n m = (q : ℕ) → n ≤ q → q < n + m → T (hits q) → ⊥

  abbrev NoTwo : ℕ → ℕ → Type 0
  NoTwo n m = (p q : ℕ) → n ≤ p → p < q → q < n + m → T (hits p) → T (hits q) → ⊥

  no_hit : (n m : ℕ) → hits_in hits n m ≤ 0 → NoHit n m
  no_hit n m h q from inside at_q =
      clash (holds_true (hits q) at_q) (among_at hits n m (λ k. false) (count_none hits n m h) q from inside)

  no_two : (n m : ℕ) → hits_in hits n m ≤ 1 → NoTwo n m
  no_two n m h p q from before inside at_p at_q =
      ⊎_elim (λ missed. clash (holds_true (hits q) at_q) (among_at hits n m (λ k. false) missed q (omega arith) inside))
      (λ once.
      let place : (q : ℕ) → n ≤ q → q < n + m → T (hits q) → q - n ≡ once.0 =
      λ q from inside hit. only_one once.0 (q - n) (sym (among_at hits n m (only once.0) once.2 q from inside) ∙ holds_true (hits q) hit) in
      let i = place p from (omega arith) at_p in
      let j = place q (omega arith) inside at_q in
      omega arith)
      (count_one hits n m h)

  none_counted : (n m : ℕ) → NoHit n m → hits_in hits n m ≤ 0
  none_counted n zero clear = omega arith
  none_counted n (suc m) clear =
      ⊎_elim (λ hit. absurd (clear n (omega arith) (omega arith) (true_holds (hits n) hit)))
      (λ miss.
      let c = counted hits n m false miss in
      let rest = none_counted (suc n) m (λ q from inside. clear q (omega arith) (omega arith)) in
      omega arith)
      (cases (hits n))

  one_counted : (n m : ℕ) → NoTwo n m → hits_in hits n m ≤ 1
  one_counted n zero clear = omega arith
  one_counted n (suc m) clear =
      ⊎_elim
      (λ hit.
      let c = counted hits n m true hit in
      let rest = none_counted (suc n) m (λ q from inside. clear n q (omega arith) (omega arith) (omega arith) (true_holds (hits n) hit)) in
      omega arith)
      (λ miss.
      let c = counted hits n m false miss in
      let rest = one_counted (suc n) m (λ p q from before inside. clear p q (omega arith) before (omega arith)) in
      omega arith)
      (cases (hits n))

  -- by what the item before allows
  few : (near : Bool) (n m : ℕ) → NoTwo n m → (T near → NoHit n m) → T (leb (hits_in hits n m) (cond near 0 1))
  few true n m two none = le→leb (hits_in hits n m) 0 (none_counted n m (none tt))
  few false n m two none = le→leb (hits_in hits n m) 1 (one_counted n m two)

  at_most_one : (near : Bool) (n m : ℕ) → T (leb (hits_in hits n m) (cond near 0 1)) → hits_in hits n m ≤ 1
  at_most_one true n m h = let z = leb→le (hits_in hits n m) 0 h in omega arith
  at_most_one false n m h = leb→le (hits_in hits n m) 1 h

  none_allowed : (near : Bool) (n m : ℕ) → T (leb (hits_in hits n m) (cond near 0 1)) → T near → hits_in hits n m ≤ 0
  none_allowed true n m h now = leb→le (hits_in hits n m) 0 h
  none_allowed false n m h now = absurd now

  -- A command that no inverted bit affects, with one among the zeros ahead of it, lies between that one and each behind it.
  unaffected_between : (n : ℕ) (i : Item) → affected_by hits n i ≡ false → (p q : ℕ) → n ≤ p → T (hits p) → p < n + item_size i → n + item_size i ≤ q
      → Spared hits p q n i
  unaffected_between n i e p q from at_p inside beyond =
      let none : (k : ℕ) → k < item_size i → T (hits (n + k)) → T (not (affected i k)) =
      λ k l hit.
      ⊎_elim (λ told. clash (affected_found hits n i k l (holds_true (hits (n + k)) hit) told) e) (λ safe. rw safe tt) (cases (affected i k)) in
      let z : n + (p - n) ≡ p = omega arith in
      let safe : T (not (affected i (p - n))) = none (p - n) (omega arith) (rw z at_p) in
      let zero = in_zeros i (p - n) safe in
      record { behind = omega arith; before = omega arith; unaffected = λ k l hit. none k (omega arith) hit }

  -- A command between two cycles lies before the second.
  before_second : (p q n : ℕ) (is : List Item) → SomeSpared hits p q n is → n ≤ q
  before_second p q n [] s = absurd s
  before_second p q n (i ∷ is) s =
      ⊎_elim (λ here. let b = here.before in omega arith) (λ later. let b = before_second p q (n + item_size i) is later in omega arith) s

  not_inside : (p q n : ℕ) (i : Item) (is : List Item) → q < n + item_size i → SomeSpared hits p q n (i ∷ is) → ⊥
  not_inside p q n i is inside s =
      ⊎_elim (λ here. let b = here.before in omega arith) (λ later. let b = before_second p q (n + item_size i) is later in omega arith) s

  -- the command of an item, and one behind it
  spared_behind : (p q n : ℕ) (i : Item) (is : List Item) → n + item_size i ≤ p → SomeSpared hits p q n (i ∷ is) → SomeSpared hits p q (n + item_size i) is
  spared_behind p q n i is from s = ⊎_elim (λ here. let b = here.behind in absurd (omega arith)) (λ later. later) s

  spared_after : (q n : ℕ) (i : Item) (is : List Item) → affected_by hits n i ≡ true → SomeSpared hits (n + affecting hits n i) q n (i ∷ is)
      → SomeSpared hits (n + affecting hits n i) q (n + item_size i) is
  spared_after q n i is e s =
      let a = affected_by_lem hits n i e in
      ⊎_elim (λ here. absurd (rw a.told at (here.unaffected (affecting hits n i) a.inside (true_holds _ a.hit)))) (λ later. later) s

  module _ (t : ℕ) where
    abbrev end : ℕ → List Item → ℕ
    end n is = n + length (stream_bits is t)

    end_behind : (n : ℕ) (i : Item) (is : List Item) → end n (i ∷ is) ≡ end (n + item_size i) is
    end_behind n i is = let z = stream_length i is t in omega arith

    -- Behind cycle p and ahead of each inverted bit lies a command that none affects.
    abbrev Sheltered : ℕ → ℕ → List Item → Type 0
    Sheltered p n is = (q : ℕ) → n ≤ q → q < end n is → T (hits q) → SomeSpared hits p q n is

    pub to_items : (near : Bool) (n : ℕ) (is : List Item) → Apart hits n is t → (T near → (p : ℕ) × Sheltered p n is) → T (apart_by_items hits near n is t)
    to_items near n [] apart sheltered =
        let size : length (zeros t) ≡ t = length-replicate t 0 in
        few near n t (λ p q from before inside at_p at_q. apart p q from before (omega arith) at_p at_q)
        (λ now q from inside at_q. (sheltered now).1 q from (omega arith) at_q)
    to_items near n (i ∷ is) apart sheltered =
        let z = end_behind n i is in
        and_both (leb (hits_in hits n (item_size i)) (cond near 0 1)) _
        (few near n (item_size i)
        (λ p q from before inside at_p at_q. not_inside p q n i is inside (apart p q from before (omega arith) at_p at_q))
        (λ now q from inside at_q. not_inside (sheltered now).0 q n i is inside ((sheltered now).1 q from (omega arith) at_q)))
        (to_items (affected_by hits n i) (n + item_size i) is
        (λ p q from before inside at_p at_q. spared_behind p q n i is from (apart p q (omega arith) before (omega arith) at_p at_q))
        (λ struck.
        let e = holds_true (affected_by hits n i) struck in
        let a = affected_by_lem hits n i e in
        let inside = a.inside in (
          n + affecting hits n i,
          λ q from below at_q.
              spared_after q n i is e (apart (n + affecting hits n i) q (omega arith) (omega arith) (omega arith) (true_holds _ a.hit) at_q),
        )))

    -- What the items say of inverted bits from cycle n on.
    record Parted (near : Bool) (n : ℕ) (is : List Item) : Type 0 where
      apart : Apart hits n is t
      sheltered : T near → (p : ℕ) → p < n → Sheltered p n is

    no_item : (near : Bool) (n : ℕ) → T (apart_by_items hits near n [] t) → Parted near n []
    no_item near n h =
        let size : length (zeros t) ≡ t = length-replicate t 0 in
        record {
          apart = λ p q from before inside at_p at_q. no_two n t (at_most_one near n t h) p q from before (omega arith) at_p at_q;
          sheltered = λ now p behind q from inside at_q. no_hit n t (none_allowed near n t h now) q from (omega arith) at_q;
        }

    -- an item, and those behind it
    module _ (n : ℕ) (i : Item) (is : List Item) (rest : Parted (affected_by hits n i) (n + item_size i) is) where
      -- by where the second lies, and then the first
      later : (p q : ℕ) → n ≤ p → n + item_size i ≤ q → p < q → q < end n (i ∷ is) → T (hits p) → T (hits q) → SomeSpared hits p q n (i ∷ is)
      later p q from beyond before inside at_p at_q =
          let z = end_behind n i is in
          ⊎_elim
          (λ b.
          let l = ltb-true p (n + item_size i) b in
          ⊎_elim (λ e. inr (rest.sheltered (true_holds (affected_by hits n i) e) p l q beyond (omega arith) at_q))
          (λ e. inl (unaffected_between n i e p q from at_p l beyond)) (cases (affected_by hits n i)))
          (λ b. let l = ltb-false p (n + item_size i) b in inr (rest.apart p q l before (omega arith) at_p at_q))
          (cases (ltb p (n + item_size i)))

      one_item : (near : Bool) → T (leb (hits_in hits n (item_size i)) (cond near 0 1)) → Parted near n (i ∷ is)
      one_item near h = record {
        apart = λ p q from before inside at_p at_q.
            ⊎_elim (λ b. absurd (no_two n (item_size i) (at_most_one near n (item_size i) h) p q from before (ltb-true q (n + item_size i) b) at_p at_q))
            (λ b. later p q from (ltb-false q (n + item_size i) b) before inside at_p at_q) (cases (ltb q (n + item_size i)));
        sheltered = λ now p behind q from inside at_q.
            let none = no_hit n (item_size i) (none_allowed near n (item_size i) h now) in
            ⊎_elim (λ b. absurd (none q from (ltb-true q (n + item_size i) b) at_q))
            (λ b.
            let beyond = ltb-false q (n + item_size i) b in
            inl
            (record {
              behind = omega arith;
              before = omega arith;
              unaffected = λ k l hit. absurd (none (n + k) (omega arith) (omega arith) hit);
            }))
            (cases (ltb q (n + item_size i)));
      }

    from_items : (near : Bool) (n : ℕ) (is : List Item) → T (apart_by_items hits near n is t) → Parted near n is
    from_items near n [] h = no_item near n h
    from_items near n (i ∷ is) h =
        one_item n i is (from_items (affected_by hits n i) (n + item_size i) is (and_right (leb (hits_in hits n (item_size i)) (cond near 0 1)) _ h)) near
        (and_left (leb (hits_in hits n (item_size i)) (cond near 0 1)) _ h)

-- The paper's premise, and the same item by item.
pub by_items : (hits : HitCycles) (n : ℕ) (is : List Item) (t : ℕ) → Apart hits n is t → T (apart_by_items hits false n is t)
by_items hits n is t apart = to_items hits t false n is apart (λ near. absurd near)

pub by_pairs : (hits : HitCycles) (n : ℕ) (is : List Item) (t : ℕ) → T (apart_by_items hits false n is t) → Apart hits n is t
by_pairs hits n is t h = (from_items hits t false n is h).apart
