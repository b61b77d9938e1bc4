-- Any number of inverted bits: what they make of each command, and how far apart they lie (document 02, F-13).
-- Assumes nothing.
use Rattle.std.specs.Prelude.{Bool, cond, not, ◌&&◌, List, [], ◌∷◌, ◌⊎◌, ℕ, zero, suc, ◌+◌, ◌-◌, ◌<◌, ◌≤◌, ltb, leb, T, length}
use Rattle.clean_streams.specs.CleanStreams.{Item, item_size, stream_bits}
use Rattle.damage.specs.Table.{Replacement, itself, damage, affected, hit_of}

-- Which bits are inverted: for each cycle, whether its bit is.
abbrev pub HitCycles : Type 0
HitCycles = ℕ → Bool

-- The same bits, inverted in the cycles of `hits`; the first is that of cycle n.
abbrev pub inverted_at : HitCycles → ℕ → List ℕ → List ℕ
inverted_at hits n [] = []
inverted_at hits n (bit ∷ bits) = cond (hits n) (1 - bit) bit ∷ inverted_at hits (suc n) bits

-- The first number below m that passes a test, or else m.
abbrev pub first_below : ℕ → (ℕ → Bool) → ℕ
first_below zero test = zero
first_below (suc m) test = cond (test zero) zero (suc (first_below m (λ k. test (suc k))))

-- Of an item that begins at cycle n: its first inverted bit that affects its command, counted from 0, or else its size.
abbrev pub affecting : HitCycles → ℕ → Item → ℕ
affecting hits n i = first_below (item_size i) (λ k. hits (n + k) && affected i k)

-- Whether its command is affected, and what then stands in its place: "Each affected command then follows the damage table separately". Where several
-- hits affect one command, which the premise below rules out, the first counts.
abbrev pub affected_by : HitCycles → ℕ → Item → Bool
affected_by hits n i = ltb (affecting hits n i) (item_size i)

abbrev pub stands_in : HitCycles → ℕ → Item → Replacement
stands_in hits n i = cond (affected_by hits n i) (damage i.command (hit_of i (affecting hits n i))) (itself i.command)

-- "a whole command that no inverted bit affects", of an item that begins at cycle n: it lies after cycle p and before cycle q. A bit of another item
-- affects another command or none.
pub record Spared (hits : HitCycles) (p q n : ℕ) (i : Item) : Type 0 where
  pub behind : p < n + i.ahead
  pub before : n + item_size i ≤ q
  pub unaffected : (k : ℕ) → k < item_size i → T (hits (n + k)) → T (not (affected i k))

abbrev pub SomeSpared : HitCycles → ℕ → ℕ → ℕ → List Item → Type 0
SomeSpared hits p q n [] = ⊥
SomeSpared hits p q n (i ∷ is) = Spared hits p q n i ⊎ SomeSpared hits p q (n + item_size i) is

-- "between any two of them lies a whole command that no inverted bit affects": of a stream that begins at cycle n.
abbrev pub Apart : HitCycles → ℕ → List Item → ℕ → Type 0
Apart hits n items trailing =
    (p q : ℕ) → n ≤ p → p < q → q < n + length (stream_bits items trailing) → T (hits p) → T (hits q) → SomeSpared hits p q n items

-- How many of m bits from cycle n on are inverted.
abbrev pub hits_in : HitCycles → ℕ → ℕ → ℕ
hits_in hits n zero = 0
hits_in hits n (suc m) = cond (hits n) 1 0 + hits_in hits (suc n) m

-- The same item by item: each has at most one inverted bit, and none after an affected command. The zeros at the end are an item too.
abbrev pub apart_by_items : HitCycles → Bool → ℕ → List Item → ℕ → Bool
apart_by_items hits after_affected n [] trailing = leb (hits_in hits n trailing) (cond after_affected 0 1)
apart_by_items hits after_affected n (i ∷ is) trailing =
    leb (hits_in hits n (item_size i)) (cond after_affected 0 1) && apart_by_items hits (affected_by hits n i) (n + item_size i) is trailing
