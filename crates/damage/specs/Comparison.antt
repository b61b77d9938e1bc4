-- The damaged records beside the clean ones in the papers' words: each affected one replaced or left out, the others equal but for trigger and bunch
-- numbers up to the next reset (document 01, "The damage table", last paragraph; document 02, F-13).
-- Assumes nothing.
use Rattle.std.specs.Prelude.{◌≡◌, Bool, cond, not, ◌&&◌, ◌||◌, List, [], ◌∷◌, ◌++◌, ℕ, ◌+◌, ◌-◌, ◌/◌, ◌%◌, eqb, ltb, T}
use Rattle.registers.specs.declared.Counters.{Counters}
use Rattle.records.specs.Records.{kind_lv1}
use Rattle.records.specs.declared.Record.{Record}
use Rattle.timing.specs.Table.{kind_bcr, kind_ecr}
use Rattle.clean_streams.specs.Commands.{command_kind}
use Rattle.clean_streams.specs.CleanStreams.{Item, item_size}
use Rattle.damage.specs.Table.{affected, replacement_of}
use Rattle.damage.specs.Hits.{HitCycles, affected_by, stands_in}
use Rattle.damage.specs.Records.{Ahead, item_records, item_ahead, clean_records, replacement_records, hit_after}

-- An LV1's value is its position × 65,536 + its trigger number × 256 + its bunch number. Positions differ "as part of the affected record only" (document
-- 02, F-1), so that here they always agree; each number agrees unless it may still differ. All else is equal.
abbrev pub SameValue : Bool → Bool → Record → Record → Type 0
SameValue trigger bunch x y =
    cond (eqb x.kind kind_lv1)
    ((x.value / 65536 ≡ y.value / 65536) × (T (not trigger) → x.value / 256 ≡ y.value / 256) × (T (not bunch) → x.value % 256 ≡ y.value % 256))
    (x.value ≡ y.value)

-- An unaffected command in both runs. The flags are equal: "only the affected record's flag may differ" (document 02, F-5).
abbrev pub SameRecord : Bool → Bool → Record → Record → Type 0
SameRecord trigger bunch x y = (x.time ≡ y.time) × (x.kind ≡ y.kind) × (x.flags ≡ y.flags) × SameValue trigger bunch x y

-- The records after the affected command. "L1ID (the trigger number) may differ only .. up to the first ECR after it, the bunch number up to the first
-- BCR".
abbrev pub SameAfter : Bool → Bool → List Record → List Record → Type 0
SameAfter trigger bunch [] [] = Unit {0}
SameAfter trigger bunch [] (y ∷ ys) = ⊥
SameAfter trigger bunch (x ∷ xs) [] = ⊥
SameAfter trigger bunch (x ∷ xs) (y ∷ ys) =
    SameRecord trigger bunch x y
    × SameAfter (trigger && not (eqb x.kind kind_ecr)) (bunch && not (eqb x.kind kind_bcr)) xs ys

-- The damaged records are the clean ones ahead of the item that holds the inverted bit, what the table says of that item, and records like the clean
-- ones after it; "if none is affected, nowhere" do they differ.
abbrev pub Replaced : Bool → Ahead → ℕ → List Item → ℕ → List Record → Type 0
Replaced sent a n [] k damaged = damaged ≡ []
Replaced sent a n (i ∷ is) k damaged =
    cond (ltb k (item_size i))
    ((rest : List Record) × (damaged ≡ replacement_records sent a (n + i.ahead) (replacement_of i k) ++ rest)
    × SameAfter (affected i k) (affected i k) (clean_records sent (item_ahead a n i) (n + item_size i) is) rest)
    ((rest : List Record) × (damaged ≡ item_records sent a n i ++ rest) × Replaced sent (item_ahead a n i) (n + item_size i) is (k - item_size i) rest)

-- Any number of inverted bits. "each counter agrees until the first affected command and again from each unaffected reset until another command is
-- affected": whether a counter may differ after an item, and after a stream. `reset` is the kind of the command that resets it, `before` tells whether it may
-- differ ahead.
abbrev pub may_differ : HitCycles → ℕ → ℕ → Item → Bool → Bool
may_differ hits reset n i before = affected_by hits n i || (before && not (eqb (command_kind i.command) reset))

abbrev pub may_differ_after : HitCycles → ℕ → ℕ → List Item → Bool → Bool
may_differ_after hits reset n [] before = before
may_differ_after hits reset n (i ∷ is) before = may_differ_after hits reset (n + item_size i) is (may_differ hits reset n i before)

-- The counters of two runs, each equal unless it may differ.
abbrev pub SameCounters : Bool → Bool → Counters → Counters → Type 0
SameCounters trigger bunch c d = (T (not trigger) → c.l1id ≡ d.l1id) × (T (not bunch) → c.base ≡ d.base)

-- "Each affected command then follows the damage table separately, its trigger and bunch numbers by the damaged run's counters ahead of it instead of the
-- clean ones; all others are recorded as in the clean run but for these numbers". a and b are what stands ahead in the clean run and in the damaged one;
-- `trigger` and `bunch` tell whether these numbers may differ there.
abbrev pub Beside : Bool → HitCycles → Bool → Bool → Ahead → Ahead → ℕ → List Item → List Record → List Record → Type 0
Beside sent hits trigger bunch a b n [] clean damaged = SameCounters trigger bunch a.counters b.counters × (clean ≡ []) × (damaged ≡ [])
Beside sent hits trigger bunch a b n (i ∷ is) clean damaged =
    SameCounters trigger bunch a.counters b.counters
    × (x : Record) × (xs : List Record) × (ys : List Record) × (clean ≡ x ∷ xs)
    × cond (affected_by hits n i) (damaged ≡ replacement_records sent b (n + i.ahead) (stands_in hits n i) ++ ys)
    ((y : Record) × (damaged ≡ y ∷ ys) × SameRecord trigger bunch x y)
    × Beside sent hits (may_differ hits kind_ecr n i trigger) (may_differ hits kind_bcr n i bunch)
    (item_ahead a n i) (hit_after hits b n i) (n + item_size i) is xs ys

-- A clean stream keeps the timing table, so that only its first command can be too close to a record before it: no later one has flag 20 (document 02, F-5).
abbrev pub InTime : List Record → Type 0
InTime [] = Unit {0}
InTime (r ∷ rs) = (r.flags / 0x20 % 2 ≡ 0) × InTime rs

abbrev pub OnlyFirst : List Record → Type 0
OnlyFirst [] = Unit {0}
OnlyFirst (r ∷ rs) = InTime rs
