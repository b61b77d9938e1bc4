-- The damaged records beside the clean ones: each affected one replaced or left out, the others equal but for the two counters up to the next reset.
-- Assumes nothing.
use mathlib.Core.Path.{◌≡◌, ◌∙◌, refl, sym, ap}
use mathlib.Core.Bool.{Bool, true, false, cond, not, ◌&&◌}
use mathlib.Core.List.{List, [], ◌∷◌, ◌++◌}
use mathlib.Core.Logic.{⊎_elim}
use Prim.Native.Nat.{ℕ, ◌+◌, ◌-◌, ◌%◌}
use native.Mathlib.Omega.{arith}
use lib.Dec.{eqb, ltb, T, ltb→lt}
use Rattle.bits.proofs.Truth.{cases, cond_left, cond_statement}
use Rattle.records.specs.declared.Record.{Record}
use Rattle.timing.specs.Table.{kind_bcr, kind_ecr}
use Rattle.timing.specs.TooClose.{earlier_below, too_close, flag_too_close}
use Rattle.clean_streams.specs.Commands.{Command, lv1, bcr, ecr, cal, sync, command_kind}
use Rattle.damage.specs.Requests.{request_of}
use Rattle.clean_streams.specs.CleanStreams.{Item, item_size, spaced, timed}
use Rattle.damage.specs.Table.{Replacement, itself, damage, affected, hit_of, replacement_of}
use Rattle.damage.specs.Hits.{HitCycles, affected_by, stands_in}
use Rattle.damage.specs.Records.{Ahead, request_records, ahead_after, last_cycle, item_records, item_ahead, clean_records, clean_ahead}
use Rattle.damage.specs.Records.{replacement_records, replacement_ahead, damaged_records, hit_after, hit_records, hit_ahead}
use Rattle.damage.specs.Comparison.{SameRecord, SameAfter, Replaced, SameCounters, may_differ, may_differ_after, Beside}
use Rattle.damage.proofs.StreamBits.{spaced_timed}
use Rattle.damage.proofs.Replacements.{replacement_passes}
use Rattle.damage.proofs.HitItems.{stands_passes}
use Rattle.damage.proofs.Spacing.{gives_way, gives_way_lem, replaced_yields, Alike, alike_equal, alike_next, own_earlier, below_item}

still : (a : Bool) → T (not (a && true)) → T (not a)
still true h = h
still false h = h

-- A command recorded at cycle m in two runs, what stands ahead of it in each.
module _ (sent : Bool) (m : ℕ) (a b : Ahead) (trigger bunch : Bool) (same : SameCounters trigger bunch a.counters b.counters) where
  pub record Twice (c : Command) : Type 0 where
    pub x : Record
    pub y : Record
    pub first : request_records sent a m (request_of c) ≡ x ∷ []
    pub second : request_records sent b m (request_of c) ≡ y ∷ []
    pub kind : x.kind ≡ command_kind c
    pub alike : SameRecord trigger bunch x y

  same_flags : (flags : ℕ) {x y : Bool} → x ≡ y → flags + flag_too_close x ≡ flags + flag_too_close y
  same_flags flags e = ap (λ b. flags + flag_too_close b) e

  -- flagged alike
  twice : (c : Command) → too_close a.earlier m (command_kind c) 0 ≡ too_close b.earlier m (command_kind c) 0 → Twice c
  twice lv1 e = record {
    x = _;
    y = _;
    first = refl;
    second = refl;
    kind = refl;
    alike = (refl, refl, same_flags _ e, (omega arith, (λ h. let p = same.0 h in omega arith), (λ h. let q = same.1 h in omega arith)));
  }
  twice bcr e = record { x = _; y = _; first = refl; second = refl; kind = refl; alike = (refl, refl, same_flags _ e, refl) }
  twice ecr e = record { x = _; y = _; first = refl; second = refl; kind = refl; alike = (refl, refl, same_flags _ e, refl) }
  twice cal e = record { x = _; y = _; first = refl; second = refl; kind = refl; alike = (refl, refl, same_flags _ e, refl) }
  twice sync e = record { x = _; y = _; first = refl; second = refl; kind = refl; alike = (refl, refl, same_flags _ e, refl) }

  -- the counters after it: an ECR and a BCR reset one each
  counters_after : (c : Command)
      → SameCounters (trigger && not (eqb (command_kind c) kind_ecr)) (bunch && not (eqb (command_kind c) kind_bcr))
      (ahead_after a m (request_of c)).counters (ahead_after b m (request_of c)).counters
  counters_after lv1 = ((λ h. ap (λ l. (l + 1) % 256) (same.0 (still trigger h))), (λ h. same.1 (still bunch h)))
  counters_after bcr = ((λ h. same.0 (still trigger h)), (λ h. refl))
  counters_after ecr = ((λ h. refl), (λ h. same.1 (still bunch h)))
  counters_after cal = ((λ h. same.0 (still trigger h)), (λ h. same.1 (still bunch h)))
  counters_after sync = ((λ h. same.0 (still trigger h)), (λ h. same.1 (still bunch h)))

-- The clean records of two runs, flagged alike.
same_after : (sent : Bool) (n : ℕ) (is : List Item) (a b : Ahead) (t u : Bool) → SameCounters t u a.counters b.counters
    → Alike a.earlier b.earlier n is → SameAfter t u (clean_records sent a n is) (clean_records sent b n is)
same_after sent n [] a b t u same e = tt
same_after sent n (i ∷ is) a b t u same e =
    let m = last_cycle n i in
    let p = twice sent m a b t u same i.command e in
    let earlier : (item_ahead a n i).earlier ≡ (item_ahead b n i).earlier = own_earlier a m i.command ∙ sym (own_earlier b m i.command) in
    let rest = same_after sent (n + item_size i) is _ _ _ _ (counters_after sent m a b t u same i.command) (alike_equal _ _ earlier (n + item_size i) is) in
    rw (p.first, p.second) (p.alike, rw p.kind rest)

-- an unaffected command is itself
spared : (i : Item) (k : ℕ) → T (not (affected i k)) → replacement_of i k ≡ itself i.command
spared i k h = cond_left (affected i k) (damage i.command (hit_of i k)) (itself i.command) h

pub replaced : (sent : Bool) (a : Ahead) (n : ℕ) (is : List Item) (k : ℕ) → T (timed is) → earlier_below a.earlier n ≡ true
    → Replaced sent a n is k (damaged_records sent a n is k)
replaced sent a n [] k timed below = refl
replaced sent a n (i ∷ is) k timed below =
    cond_statement
    (λ ys. (rest : List Record) × (ys ≡ replacement_records sent a (n + i.ahead) (replacement_of i k) ++ rest)
    × SameAfter (affected i k) (affected i k) (clean_records sent (item_ahead a n i) (n + item_size i) is) rest)
    (λ ys. (rest : List Record) × (ys ≡ item_records sent a n i ++ rest) × Replaced sent (item_ahead a n i) (n + item_size i) is (k - item_size i) rest)
    (ltb k (item_size i)) _ _
    (λ inside.
    let gives = replacement_passes gives_way gives_way_lem i k (ltb→lt k (item_size i) inside) in (
      _,
      refl,
      same_after sent (n + item_size i) is _ _ (affected i k) (affected i k) (
        (λ h. ap (λ (x : Replacement). (replacement_ahead a (n + i.ahead) x).counters.l1id) (sym (spared i k h))),
        (λ h. ap (λ (x : Replacement). (replacement_ahead a (n + i.ahead) x).counters.base) (sym (spared i k h))),
      )
          (alike_next a n i _ (replaced_yields a n i.ahead i.command below (replacement_of i k) gives) is timed),
    ))
    (λ later. (_, refl, replaced sent (item_ahead a n i) (n + item_size i) is (k - item_size i) (spaced_timed i.command is timed) (below_item a n i)))

-- Any number of inverted bits: what stands ahead of an item in the clean run and in the damaged one.
pub record Standing (trigger bunch : Bool) (a b : Ahead) (n : ℕ) (is : List Item) : Type 0 where
  pub same : SameCounters trigger bunch a.counters b.counters
  pub alike : Alike a.earlier b.earlier n is
  pub below : earlier_below b.earlier n ≡ true

module _ (sent : Bool) (hits : HitCycles) where
  -- after an item, affected or not
  counters_on : (n : ℕ) (i : Item) (a b : Ahead) (t u : Bool) → SameCounters t u a.counters b.counters
      → SameCounters (may_differ hits kind_ecr n i t) (may_differ hits kind_bcr n i u) (item_ahead a n i).counters (hit_after hits b n i).counters
  counters_on n i a b t u same =
      ⊎_elim (λ e. rw e ((λ h. absurd h), (λ h. absurd h)))
      (λ e. rw e (counters_after sent (last_cycle n i) a b t u same i.command)) (cases (affected_by hits n i))

  goes_on : {t u : Bool} {a b : Ahead} {n : ℕ} {i : Item} {is : List Item} → Standing t u a b n (i ∷ is) → T (spaced i.command is)
      → Standing (may_differ hits kind_ecr n i t) (may_differ hits kind_bcr n i u) (item_ahead a n i) (hit_after hits b n i) (n + item_size i) is
  goes_on {t} {u} {a} {b} {n} {i} {is} s h =
      let y = replaced_yields b n i.ahead i.command s.below (stands_in hits n i) (stands_passes gives_way gives_way_lem hits n i) in
      record { same = counters_on n i a b t u s.same; alike = alike_next a n i _ y is h; below = y.below }

  -- what the damaged run records of it
  module _ (n : ℕ) (i : Item) (a b : Ahead) (t u : Bool) (same : SameCounters t u a.counters b.counters)
      (p : Twice sent (last_cycle n i) a b t u same i.command) (rest : List Record) where
    abbrev damaged : List Record
    damaged = replacement_records sent b (n + i.ahead) (stands_in hits n i) ++ rest

    recorded : cond (affected_by hits n i) (damaged ≡ damaged) ((y : Record) × (damaged ≡ y ∷ rest) × SameRecord t u p.x y)
    recorded = ⊎_elim (λ e. rw e) (λ e. rw e (p.y, ap (λ l. l ++ rest) p.second, p.alike)) (cases (affected_by hits n i))

  pub beside : (t u : Bool) (a b : Ahead) (n : ℕ) (is : List Item) → Standing t u a b n is → T (timed is)
      → Beside sent hits t u a b n is (clean_records sent a n is) (hit_records sent hits b n is)
  beside t u a b n [] s h = (s.same, refl, refl)
  beside t u a b n (i ∷ is) s h =
      let p = twice sent (last_cycle n i) a b t u s.same i.command s.alike in
      let xs = clean_records sent (item_ahead a n i) (n + item_size i) is in
      let ys = hit_records sent hits (hit_after hits b n i) (n + item_size i) is in (
        s.same,
        p.x,
        xs,
        ys,
        ap (λ l. l ++ xs) p.first,
        recorded n i a b t u s.same p ys,
        beside (may_differ hits kind_ecr n i t) (may_differ hits kind_bcr n i u) (item_ahead a n i) (hit_after hits b n i) (n + item_size i) is (goes_on s h)
            (spaced_timed i.command is h),
      )

  pub counters : (t u : Bool) (a b : Ahead) (n : ℕ) (is : List Item) → SameCounters t u a.counters b.counters
      → SameCounters (may_differ_after hits kind_ecr n is t) (may_differ_after hits kind_bcr n is u) (clean_ahead a n is).counters (hit_ahead hits b n is).counters
  counters t u a b n [] same = same
  counters t u a b n (i ∷ is) same =
      counters (may_differ hits kind_ecr n i t) (may_differ hits kind_bcr n i u) (item_ahead a n i) (hit_after hits b n i) (n + item_size i) is
      (counters_on n i a b t u same)
