-- The data of a reply: what is received behind the header is the vote of each group of eight cycles, as many as are expected.
-- Assumes nothing.
use mathlib.Core.Bool.{true, false}
use mathlib.Core.List.{List, [], ◌∷◌, ◌++◌, append-nil}
use mathlib.Core.Logic.{⊎_elim}
use mathlib.Core.Path.{◌≡◌, ◌∙◌, refl, sym, ap}
use Prim.Native.Nat.{ℕ, zero, suc, ◌+◌, ◌*◌, ◌-◌, ◌/◌, ◌%◌, ◌<◌, ◌≤◌}
use native.Mathlib.Nat.{zero-add}
use native.Mathlib.Omega.{arith}
use lib.Dec.{T, leb, eqb}
use lib.ListN.{length, get_or, take, drop, length-append, length-drop}
use lib.Seq.{length-take-le, take-suc, split_at}
use borrow.Author.Tests.{eq-eqb, ne_eqb, leb-true, leb-false}
use Rattle.bits.proofs.Truth.{cases}
use Rattle.bits.proofs.BitRanges.{binary}
use Rattle.groups.specs.Vote.{vote_of, votes_of}
use Rattle.groups.specs.Received.{held_with, bits_in, left_by}
use Rattle.groups.proofs.GroupLists.{binary_take, binary_drop}
use Rattle.groups.proofs.LeftBits.{bits_left, left_last}
use Rattle.frames.specs.Tray.{stored_of, filled_of}
use Rattle.replies.specs.Said.{CutShort}
use Rattle.replies.specs.declared.Reception.{Reception}
use Rattle.replies.specs.Replies.{ReplyResult, reply_result, data_result}
use Rattle.replies.specs.Reception.{Received, received, after_of, said_of}
use Rattle.replies.proofs.Kept.{none_more, whole_stays}

-- What is said at the end, with the buffer then.
abbrev pub result_of : Received → ReplyResult
result_of r = reply_result (said_of r.reception) r.buffer

-- Behind the header, so many cycles of the expected ones.
abbrev pub behind_at : ℕ → ℕ → ℕ → ℕ → Reception
behind_at total window group cycles = record { total = total; window = window; found = true; group = group; cycles = cycles }

-- Bits ahead of a group's eighth.
module _ (n window k : ℕ) (more : k < n) (buffer : List ℕ) where
  abbrev at : ℕ → ℕ → Received
  at group i = received (behind_at (8 * n) window group (8 * k + i)) buffer

  next : (group i bit : ℕ) (bits : List ℕ) → i < 7 → after_of (at group i) (bit ∷ bits) ≡ after_of (at (held_with group bit) (i + 1)) bits
  unfolding after_of
  next group i bit bits h =
      let early : eqb (8 * k + i) (8 * n) ≡ false = ne_eqb (8 * k + i) (8 * n) (λ e. omega arith) in
      let inside : eqb ((8 * k + i) % 8) 7 ≡ false = ne_eqb ((8 * k + i) % 8) 7 (λ e. omega arith) in
      let on : 8 * k + i + 1 ≡ 8 * k + (i + 1) = omega arith in
      rw (early, inside, on)

  pub gather : (part rest : List ℕ) (group i : ℕ) → i + length part < 8
      → after_of (at group i) (part ++ rest) ≡ after_of (at (left_by group part) (i + length part)) rest
  gather [] rest group i h = let e : i + 0 ≡ i = omega arith in rw e
  gather (bit ∷ part) rest group i h =
      let e : i + 1 + length part ≡ i + suc (length part) = omega arith in
      next group i bit (part ++ rest) (omega arith)
      ∙ gather part rest (held_with group bit) (i + 1) (omega arith)
      ∙ ap (λ (j : ℕ). after_of (at (left_by (held_with group bit) part) j) rest) e

  -- the eighth, and with it the whole group
  eighth : (group bit : ℕ) (bits : List ℕ) → after_of (at group 7) (bit ∷ bits)
      ≡ after_of (received (behind_at (8 * n) window 0 (8 * suc k)) (stored_of buffer k (vote_of (bits_in (held_with group bit))))) bits
  unfolding after_of
  eighth group bit bits =
      let early : eqb (8 * k + 7) (8 * n) ≡ false = ne_eqb (8 * k + 7) (8 * n) (λ e. omega arith) in
      let last : eqb ((8 * k + 7) % 8) 7 ≡ true = eq-eqb ((8 * k + 7) % 8) 7 (omega arith) in
      let place : (8 * k + 7) / 8 ≡ k = omega arith in
      let on : 8 * k + 7 + 1 ≡ 8 * suc k = omega arith in
      rw (early, last, place, on)

  pub group_read : (part : List ℕ) (bit : ℕ) (rest : List ℕ) → length part ≡ 7 → T (binary (part ++ (bit ∷ [])))
      → after_of (at 0 0) (part ++ (bit ∷ rest))
      ≡ after_of (received (behind_at (8 * n) window 0 (8 * suc k)) (stored_of buffer k (vote_of (part ++ (bit ∷ []))))) rest
  group_read part bit rest seven b =
      let whole : length (part ++ (bit ∷ [])) ≡ 8 = length-append part (bit ∷ []) ∙ omega arith in
      let bits : bits_in (held_with (left_by 0 part) bit) ≡ part ++ (bit ∷ []) = ap bits_in (sym (left_last part 0 bit)) ∙ bits_left (part ++ (bit ∷ [])) whole b in
      gather part (bit ∷ rest) 0 0 (omega arith)
      ∙ ap (λ (j : ℕ). after_of (at (left_by 0 part) j) (bit ∷ rest)) (zero-add (length part) ∙ seven)
      ∙ eighth (left_by 0 part) bit rest
      ∙ ap (λ (g : List ℕ). after_of (received (behind_at (8 * n) window 0 (8 * suc k)) (stored_of buffer k (vote_of g))) rest) bits

-- What is left behind so many groups.
abbrev behind_groups : ℕ → List ℕ → List ℕ
behind_groups zero cycles = cycles
behind_groups (suc j) cycles = behind_groups j (drop 8 cycles)

behind_length : (j : ℕ) (cycles : List ℕ) → length (behind_groups j cycles) ≡ length cycles - 8 * j
behind_length zero cycles = omega arith
behind_length (suc j) cycles = behind_length j (drop 8 cycles) ∙ (let e = length-drop 8 cycles in omega (arith, e))

-- The first group of some cycles, whole, is read.
first_read : (n window k : ℕ) (buffer cycles : List ℕ) → k < n → 8 ≤ length cycles → T (binary cycles)
    → after_of (received (behind_at (8 * n) window 0 (8 * k)) buffer) cycles
    ≡ after_of (received (behind_at (8 * n) window 0 (8 * suc k)) (stored_of buffer k (vote_of (take 8 cycles)))) (drop 8 cycles)
first_read n window k buffer cycles more some bits =
    let part : List ℕ = take 7 cycles in
    let bit : ℕ = get_or cycles 7 0 in
    let rest : List ℕ = drop 8 cycles in
    let start : 8 * k ≡ 8 * k + 0 = omega arith in
    let whole : cycles ≡ part ++ (bit ∷ rest) = split_at cycles 7 0 (omega arith) in
    let first : take 8 cycles ≡ part ++ (bit ∷ []) = take-suc cycles 7 0 (omega arith) in
    let its_bits : T (binary (part ++ (bit ∷ []))) = rw first at (binary_take 8 cycles bits) in
    ap (λ (i : ℕ). after_of (received (behind_at (8 * n) window 0 i) buffer) cycles) start
    ∙ ap (after_of (received (behind_at (8 * n) window 0 (8 * k + 0)) buffer)) whole
    ∙ group_read n window k more buffer part bit rest (length-take-le 7 cycles (omega arith)) its_bits
    ∙ ap (λ (g : List ℕ). after_of (received (behind_at (8 * n) window 0 (8 * suc k)) (stored_of buffer k (vote_of g))) rest) (sym first)

-- So many groups, as long as bits are expected.
groups_read : (j n window k : ℕ) (buffer cycles : List ℕ) → k + j ≤ n → 8 * j ≤ length cycles → T (binary cycles)
    → after_of (received (behind_at (8 * n) window 0 (8 * k)) buffer) cycles
    ≡ after_of (received (behind_at (8 * n) window 0 (8 * (k + j))) (filled_of k buffer (votes_of j cycles))) (behind_groups j cycles)
groups_read zero n window k buffer cycles room some b = let e : k + 0 ≡ k = omega arith in rw e
groups_read (suc j) n window k buffer cycles room some b =
    let on : suc k + j ≡ k + suc j = omega arith in
    let one : suc k ≡ k + 1 = omega arith in
    let fewer = length-drop 8 cycles in
    first_read n window k buffer cycles (omega arith) (omega arith) b
    ∙ groups_read j n window (suc k) (stored_of buffer k (vote_of (take 8 cycles))) (drop 8 cycles) (omega arith) (omega (arith, fewer)) (binary_drop 8 cycles b)
    ∙ rw (on, one)

-- Fewer than eight cycles: no bit more.
few_said : (n window k : ℕ) (buffer cycles : List ℕ) → k < n → length cycles < 8
    → result_of (after_of (received (behind_at (8 * n) window 0 (8 * k)) buffer) cycles) ≡ reply_result (CutShort k) buffer
few_said n window k buffer cycles more h =
    let start : 8 * k ≡ 8 * k + 0 = omega arith in
    let all = gather n window k more buffer cycles [] 0 0 (omega arith) ∙ none_more _ in
    let early : eqb (8 * k + (0 + length cycles)) (8 * n) ≡ false = ne_eqb (8 * k + (0 + length cycles)) (8 * n) (λ e. omega arith) in
    let count : (8 * k + (0 + length cycles)) / 8 ≡ k = omega arith in
    ap (λ (c : List ℕ). result_of (after_of (received (behind_at (8 * n) window 0 (8 * k)) buffer) c)) (sym (append-nil cycles))
    ∙ ap (λ (i : ℕ). result_of (after_of (received (behind_at (8 * n) window 0 i) buffer) (cycles ++ []))) start
    ∙ ap result_of all
    ∙ rw (early, count)

-- All that comes behind the header.
module _ (n window : ℕ) (buffer cycles : List ℕ) (b : T (binary cycles)) where
  abbrev found : Received
  found = received (behind_at (8 * n) window 0 (8 * 0)) buffer

  -- as many bits as are expected
  enough : leb n (length cycles / 8) ≡ true → result_of (after_of found cycles) ≡ data_result n buffer cycles
  enough e =
      let l = leb-true n (length cycles / 8) e in
      let full = filled_of 0 buffer (votes_of n cycles) in
      let all : after_of found cycles ≡ after_of (received (behind_at (8 * n) window 0 (8 * n)) full) (behind_groups n cycles) =
      rw (zero-add n) at (groups_read n n window 0 buffer cycles (omega arith) (omega arith) b) in
      let kept = whole_stays (received (behind_at (8 * n) window 0 (8 * n)) full) (behind_groups n cycles) (eq-eqb (8 * n) (8 * n) refl) in
      ap result_of (all ∙ kept) ∙ rw (e, eq-eqb n n refl, eq-eqb (8 * n) (8 * n) refl)

  -- fewer
  short : leb n (length cycles / 8) ≡ false → result_of (after_of found cycles) ≡ data_result n buffer cycles
  short e =
      let l = leb-false n (length cycles / 8) e in
      let j : ℕ = length cycles / 8 in
      let part = filled_of 0 buffer (votes_of j cycles) in
      let other : eqb j n ≡ false = ne_eqb j n (λ same. omega (arith, l, same)) in
      let left = behind_length j cycles in
      let all : after_of found cycles ≡ after_of (received (behind_at (8 * n) window 0 (8 * j)) part) (behind_groups j cycles) =
      rw (zero-add j) at (groups_read j n window 0 buffer cycles (omega (arith, l)) (omega arith) b) in
      ap result_of all ∙ few_said n window j part (behind_groups j cycles) l (omega (arith, left)) ∙ rw (e, other)

  pub data_read : result_of (after_of found cycles) ≡ data_result n buffer cycles
  data_read = ⊎_elim enough short (cases (leb n (length cycles / 8)))
