-- A reply that was sent is read back: its header at its place, and each bit by the vote of its cycles, of which at most three were inverted.
-- Assumes nothing.
use mathlib.Core.Bool.{Bool, true, false, cond}
use mathlib.Core.List.{List, [], ◌∷◌}
use mathlib.Core.Path.{◌≡◌, ◌∙◌, refl, sym, ap, ap₂, subst}
use Prim.Native.Nat.{ℕ, zero, suc, ◌+◌, ◌*◌, ◌/◌, ◌<◌, ◌≤◌}
use native.Mathlib.Omega.{arith}
use lib.Dec.{T, eqb, ltb, ltb→lt}
use lib.ListN.{length, get_or, take, drop, length-drop}
use lib.Seq.{length-take-le, drop-nil, drop-drop}
use borrow.Author.Tests.{le-leb, lt-leb, eq-eqb, ne_eqb}
use Rattle.bits.proofs.BitRanges.{binary}
use Rattle.bits.proofs.Truth.{clash, and_left, and_right}
use Rattle.groups.specs.Vote.{ones_of, vote_of, votes_of}
use Rattle.groups.proofs.GroupLists.{binary_take, binary_drop, votes_binary}
use Rattle.frames.specs.Tray.{filled_of}
use Rattle.replies.specs.Said.{Whole}
use Rattle.replies.specs.Replies.{header, begins, Behind, nowhere, behind, behind_header, complete_of, reply_result, result_by, read_of}
use Rattle.replies.specs.Sent.{NoneBefore, FoundAt, inverted_in, Sent}

-- The ones of a group by the cycles that were inverted.
sent_zero : (group : List ℕ) → T (binary group) → ones_of group ≡ inverted_in 0 group
sent_zero [] b = refl
sent_zero (zero ∷ cycles) b = ap (λ n. 0 + n) (sent_zero cycles b)
sent_zero (suc zero ∷ cycles) b = ap (λ n. 1 + n) (sent_zero cycles b)
sent_zero (suc (suc n) ∷ cycles) b = absurd (let l = ltb→lt (suc (suc n)) 2 (and_left (ltb (suc (suc n)) 2) (binary cycles) b) in omega arith)

sent_one : (group : List ℕ) → T (binary group) → ones_of group + inverted_in 1 group ≡ length group
sent_one [] b = refl
sent_one (zero ∷ cycles) b = let h = sent_one cycles b in omega arith
sent_one (suc zero ∷ cycles) b = let h = sent_one cycles b in omega arith
sent_one (suc (suc n) ∷ cycles) b = absurd (let l = ltb→lt (suc (suc n)) 2 (and_left (ltb (suc (suc n)) 2) (binary cycles) b) in omega arith)

-- What is no bit is no cycle.
sent_other : (n : ℕ) (group : List ℕ) → T (binary group) → inverted_in (suc (suc n)) group ≡ length group
sent_other n [] b = refl
sent_other n (cycle ∷ cycles) b =
    let low = ltb→lt cycle 2 (and_left (ltb cycle 2) (binary cycles) b) in
    let other : eqb cycle (suc (suc n)) ≡ false = ne_eqb cycle (suc (suc n)) (λ e. omega arith) in
    let rest = sent_other n cycles (and_right (ltb cycle 2) (binary cycles) b) in
    rw other (omega (arith, rest))

vote_sent : (bit : ℕ) (group : List ℕ) → T (binary group) → length group ≡ 8 → inverted_in bit group ≤ 3 → vote_of group ≡ bit
vote_sent zero group b long few =
    let ones = sent_zero group b in
    rw (lt-leb 5 (ones_of group) (omega (arith, ones, few)), le-leb (ones_of group) 3 (omega (arith, ones, few)))
vote_sent (suc zero) group b long few =
    let ones = sent_one group b in
    rw (le-leb 5 (ones_of group) (omega (arith, ones, few, long)))
vote_sent (suc (suc n)) group b long few = let all = sent_other n group b in absurd (omega (arith, all, few, long))

-- The groups of some bits, one after another.
abbrev Groups : List ℕ → List ℕ → Type 0
Groups bits cycles = (i : ℕ) → i < length bits → inverted_in (get_or bits i 0) (take 8 (drop (8 * i) cycles)) ≤ 3

later_groups : (bit : ℕ) (bits cycles : List ℕ) → Groups (bit ∷ bits) cycles → Groups bits (drop 8 cycles)
later_groups bit bits cycles g i h =
    let on : 8 * suc i ≡ 8 + 8 * i = omega arith in
    let same : drop (8 * i) (drop 8 cycles) ≡ drop (8 * suc i) cycles = drop-drop (8 * i) 8 cycles ∙ ap (λ n. drop n cycles) (sym on) in
    subst (λ (c : List ℕ). inverted_in (get_or bits i 0) (take 8 c) ≤ 3) (sym same) (g (suc i) (omega arith))

votes_sent : (bits cycles : List ℕ) → Groups bits cycles → 8 * length bits ≤ length cycles → T (binary cycles) → votes_of (length bits) cycles ≡ bits
votes_sent [] cycles g long b = refl
votes_sent (bit ∷ bits) cycles g long b =
    let fewer = length-drop 8 cycles in
    ap₂ (λ (v : ℕ) (vs : List ℕ). v ∷ vs)
    (vote_sent bit (take 8 cycles) (binary_take 8 cycles b) (length-take-le 8 cycles (omega arith)) (g 0 (omega arith)))
    (votes_sent bits (drop 8 cycles) (later_groups bit bits cycles g) (omega (arith, fewer)) (binary_drop 8 cycles b))

one_on : (place bit : ℕ) (range : List ℕ) → drop (suc place + 5) (bit ∷ range) ≡ drop (place + 5) range
one_on place bit range = let e : suc place + 5 ≡ suc (place + 5) = omega arith in rw e

-- The header at its place.
header_found : (place : ℕ) (range : List ℕ) → begins header (drop place range) ≡ true → NoneBefore place range
    → behind_header range ≡ behind (drop (place + 5) range)
unfolding behind_header
header_found place [] e none = clash e (ap (begins header) (drop-nil place))
header_found zero (bit ∷ range) e none = rw e
header_found (suc place) (bit ∷ range) e none =
    rw (none 0 (omega arith)) (header_found place range e (λ i h. none (suc i) (omega arith)) ∙ ap behind (sym (one_on place bit range)))

-- It is found at the first place at which it stands.
module _ (bit : ℕ) (range : List ℕ) (e : begins header (bit ∷ range) ≡ false) where
  later_none : {places : ℕ} → NoneBefore places range → NoneBefore (suc places) (bit ∷ range)
  later_none none zero h = e
  later_none none (suc i) h = none i (omega arith)

  nowhere_later : FoundAt range nowhere → FoundAt (bit ∷ range) nowhere
  nowhere_later f zero = e
  nowhere_later f (suc i) = f i

  later_found : (b : Behind) → FoundAt range b → FoundAt (bit ∷ range) b
  later_found nowhere f = nowhere_later f
  later_found (behind cycles) f = (suc f.0, f.1, later_none f.2, f.3 ∙ sym (one_on f.0 bit range))

found_by : (bit : ℕ) (range : List ℕ) (b : Bool) → begins header (bit ∷ range) ≡ b → FoundAt range (behind_header range)
    → FoundAt (bit ∷ range) (cond b (behind (drop 5 (bit ∷ range))) (behind_header range))
found_by bit range true e f = (0, e, (λ i h. absurd (omega arith)), refl)
found_by bit range false e f = later_found bit range e (behind_header range) f

nowhere_in_none : FoundAt [] nowhere
nowhere_in_none zero = refl
nowhere_in_none (suc i) = refl

pub found_at : (range : List ℕ) → FoundAt range (behind_header range)
unfolding behind_header
found_at [] = nowhere_in_none
found_at (bit ∷ range) = found_by bit range (begins header (bit ∷ range)) refl (found_at range)

-- The whole reply.
module _ (bits range : List ℕ) (s : Sent bits range) (b : T (binary range)) (buffer : List ℕ) where
  abbrev cycles : List ℕ
  cycles = drop (s.place + 5) range

  groups : Groups bits cycles
  groups i h =
      let same : drop (8 * i) cycles ≡ drop (s.place + 5 + 8 * i) range = drop-drop (8 * i) (s.place + 5) range in
      subst (λ (c : List ℕ). inverted_in (get_or bits i 0) (take 8 c) ≤ 3) (sym same) (s.few i h)

  long : 8 * length bits ≤ length cycles
  long = let fewer = length-drop (s.place + 5) range in let inside = s.inside in omega (arith, fewer, inside)

  votes_are : votes_of (length bits) cycles ≡ bits
  votes_are = votes_sent bits cycles groups long (binary_drop (s.place + 5) range b)

  pub sent_binary : T (binary bits)
  sent_binary = subst (λ (l : List ℕ). T (binary l)) votes_are (votes_binary (length bits) cycles (binary_drop (s.place + 5) range b))

  pub sent_read : read_of (length bits) buffer range ≡ reply_result Whole (filled_of 0 buffer bits)
  sent_read =
      let all : complete_of (length bits) cycles ≡ length bits = rw (le-leb (length bits) (length cycles / 8) (omega (arith, long))) in
      ap (result_by (length bits) buffer) (header_found s.place range s.starts s.earliest)
      ∙ rw (all, eq-eqb (length bits) (length bits) refl, votes_are)
