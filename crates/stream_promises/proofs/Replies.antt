-- The seventh promise, proved.
-- Assumes nothing.
use mathlib.Core.Path.{◌≡◌, ◌∙◌, refl, sym, ap, ap₂, subst}
use mathlib.Core.Bool.{Bool, true, false, cond, not, ◌||◌}
use mathlib.Core.List.{List, [], ◌∷◌, ◌++◌}
use mathlib.Core.Logic.{⊎_elim}
use Prim.Native.Nat.{ℕ, zero, suc, ◌+◌, ◌*◌, ◌-◌, ◌/◌, ◌≤◌, ◌<◌}
use native.Mathlib.Nat.{zero-add}
use native.Mathlib.Omega.{arith}
use lib.Dec.{T, leb, eqb, ltb}
use lib.ListN.{length, get_or, take, drop, replicate, length-append, get_or-eq_default}
use lib.Seq.{get_or-drop, drop-drop}
use borrow.Author.Tests.{le-leb, lt-leb, eq-eqb, ne_eqb, ltb-false, leb-true, leb-false}
use Rattle.bits.specs.Bits.{bit_of, bits_of}
use Rattle.bits.specs.Range.{range_fits}
use Rattle.bits.proofs.BitRanges.{binary, bits_all}
use Rattle.bits.proofs.Truth.{cases, choice}
use Rattle.groups.specs.Vote.{votes_of}
use Rattle.groups.proofs.GroupLists.{binary_drop, votes_binary, votes_length}
use Rattle.frames.specs.Tray.{filled_of}
use Rattle.frames.proofs.FrameFill.{filled_read, filled_length, filled_beyond}
use Rattle.orders.specs.Streams.{repeated}
use Rattle.orders.proofs.Packing.{bits_same}
use Rattle.replies.specs.Said.{Reply}
use Rattle.replies.specs.Said.{Whole, CutShort}
use Rattle.replies.specs.Replies.{header, Behind, nowhere, behind, behind_header, complete_of, most_bits, expected_fits, ReplyResult, reply_result, reply_number}
use Rattle.replies.specs.Replies.{result_by, read_of, reply_of}
use Rattle.replies.specs.Sent.{inverted_in, FoundAt, Sent}
use Rattle.replies.proofs.Sent.{found_at, sent_binary, sent_read}
use Rattle.replies.proofs.Examples.{reply_examples}
use Rattle.round_trip.specs.Bytes.{HoldsBits}
use Rattle.promises.specs.Refusals.{first_of}
use Rattle.promises.proofs.Refusals.{not_leb, not_and}
use Rattle.stream_promises.specs.Acceptance.{range_row}
use Rattle.stream_promises.specs.Replies.{ReplyCall, result_of, range_of, reply_rows, Fit, Numbered, NotFound, Found, SentReadBack, SentMet, SeventhPromise}
use Rattle.stream_promises.proofs.Acceptance.{range_row_lem}

-- The count's test is its row's, turned round.
none_row : (expected : ℕ) → not (leb 1 expected) ≡ eqb expected 0
none_row zero = refl
none_row (suc n) = ap not (le-leb 1 (suc n) (omega arith)) ∙ sym (ne_eqb (suc n) 0 (λ e. omega arith))

count_row : (expected : ℕ) → not (expected_fits expected) ≡ (eqb expected 0 || ltb most_bits expected)
count_row expected =
    not_and (leb 1 expected) (leb expected most_bits) ∙ ap₂ (λ (a b : Bool). a || b) (none_row expected) (not_leb expected most_bits)

-- What is read of bits is no refusal.
read_number : (expected : ℕ) (buffer : List ℕ) (b : Behind) → reply_number (result_by expected buffer b).reply ≡ 0
read_number expected buffer nowhere = refl
read_number expected buffer (behind cycles) =
    choice (λ (r : Reply). reply_number r ≡ 0) (eqb (complete_of expected cycles) expected) (λ _. refl) (λ _. refl)

-- A call by its three tests: its number, and where it is fit the room and what is read.
record ByTests (c : ReplyCall) : Type 0 where
  numbered : Numbered c
  room : Fit c → c.expected ≤ 8 * length c.buffer
  reads : Fit c → result_of c ≡ read_of c.expected c.buffer (range_of c)

by_tests : (c : ReplyCall) (p q r : Bool) → expected_fits c.expected ≡ p → leb c.expected (8 * length c.buffer) ≡ q
    → range_fits (length c.input) c.first c.count ≡ r → (eqb c.expected 0 || ltb most_bits c.expected) ≡ not p
    → ltb (8 * length c.buffer) c.expected ≡ not q → (range_row c.input c.first c.count).applies ≡ not r → ByTests c
unfolding reply_of
by_tests c false q r e f g e' f' g' = record {
  numbered = record { number = rw (e, e'); unchanged = λ _. rw e };
  room = λ z. let n : ◌≡◌ {A = ℕ} 18 0 = rw e' at z in absurd (omega arith);
  reads = λ z. let n : ◌≡◌ {A = ℕ} 18 0 = rw e' at z in absurd (omega arith);
}
by_tests c true false r e f g e' f' g' = record {
  numbered = record { number = rw (e, f, e', f'); unchanged = λ _. rw (e, f) };
  room = λ z. let n : ◌≡◌ {A = ℕ} 19 0 = rw (e', f') at z in absurd (omega arith);
  reads = λ z. let n : ◌≡◌ {A = ℕ} 19 0 = rw (e', f') at z in absurd (omega arith);
}
by_tests c true true false e f g e' f' g' = record {
  numbered = record { number = rw (e, f, g, e', f', g'); unchanged = λ _. rw (e, f, g) };
  room = λ _. leb-true c.expected (8 * length c.buffer) f;
  reads = λ z. let n : ◌≡◌ {A = ℕ} 5 0 = rw (e', f', g') at z in absurd (omega arith);
}
by_tests c true true true e f g e' f' g' = record {
  numbered = record {
    number = rw (e, f, g, e', f', g') (read_number c.expected c.buffer (behind_header (range_of c)));
    unchanged = λ n. absurd (n (rw (e', f', g')));
  };
  room = λ _. leb-true c.expected (8 * length c.buffer) f;
  reads = λ _. rw (e, f, g);
}

tests : (c : ReplyCall) → ByTests c
tests c =
    by_tests c (expected_fits c.expected) (leb c.expected (8 * length c.buffer)) (range_fits (length c.input) c.first c.count) refl refl refl
    (sym (count_row c.expected)) (sym (not_leb c.expected (8 * length c.buffer))) (sym (range_row_lem c.input c.first c.count))

-- A buffer holds the bits that fill it.
pub filled_holds : (bits buffer : List ℕ) → T (binary bits) → length bits ≤ 8 * length buffer → HoldsBits bits buffer (filled_of 0 buffer bits)
filled_holds bits buffer b room = record {
  read = bits_same bits (filled_of 0 buffer bits) 0 (λ i h. ap (bit_of (filled_of 0 buffer bits)) (zero-add i) ∙ filled_read bits buffer b room i (omega arith));
  filled_up = λ i past inside. filled_read bits buffer b room i inside ∙ get_or-eq_default bits 0 past;
  unchanged = λ n past.
      let k = (length bits + 7) / 8 in
      let e : k + (n - k) ≡ n = omega (arith, past) in
      ap (λ j. get_or (filled_of 0 buffer bits) j 0) (sym e)
      ∙ sym (get_or-drop k (filled_of 0 buffer bits) (n - k) 0)
      ∙ ap (λ (l : List ℕ). get_or l (n - k) 0) (filled_beyond k bits 0 buffer (omega arith))
      ∙ get_or-drop k buffer (n - k) 0
      ∙ ap (λ j. get_or buffer j 0) e;
  long = filled_length bits 0 buffer;
}

not_found : NotFound
not_found c fit e = (tests c).reads fit ∙ ap (result_by c.expected c.buffer) e

-- Whole, or cut short, by the cycles behind the header.
said : (expected : ℕ) (cycles : List ℕ) (b : Bool) → leb expected (length cycles / 8) ≡ b
    → cond (eqb (complete_of expected cycles) expected) Whole (CutShort (complete_of expected cycles))
    ≡ cond (leb (8 * expected) (length cycles)) Whole (CutShort (length cycles / 8))
said expected cycles true e =
    let l = leb-true expected (length cycles / 8) e in
    rw (e, eq-eqb expected expected refl, le-leb (8 * expected) (length cycles) (omega (arith, l)))
said expected cycles false e =
    let l = leb-false expected (length cycles / 8) e in
    rw (e, ne_eqb (length cycles / 8) expected (λ z. omega (arith, l, z)), lt-leb (8 * expected) (length cycles) (omega (arith, l)))

few_complete : (expected groups : ℕ) → cond (leb expected groups) expected groups ≤ expected
few_complete expected groups =
    choice (λ (v : ℕ). v ≤ expected) (leb expected groups) (λ _. omega arith) (λ e. let l = leb-false expected groups e in omega (arith, l))

found : Found
found c cycles fit e =
    let n : ℕ = complete_of c.expected cycles in
    let at = subst (FoundAt (range_of c)) e (found_at (range_of c)) in
    let all : T (binary cycles) = subst (λ (l : List ℕ). T (binary l)) (sym at.3) (binary_drop (at.0 + 5) (range_of c) (bits_all c.input c.first c.count)) in
    let few = few_complete c.expected (length cycles / 8) in
    let long = votes_length n cycles in
    let room = (tests c).room fit in
    let read : result_of c ≡ result_by c.expected c.buffer (behind cycles) = (tests c).reads fit ∙ ap (result_by c.expected c.buffer) e in
    record {
      says = ap (λ (r : ReplyResult). r.reply) read ∙ said c.expected cycles (leb c.expected (length cycles / 8)) refl;
      holds = subst (λ (r : ReplyResult). HoldsBits (votes_of n cycles) c.buffer r.buffer) (sym read)
          (filled_holds (votes_of n cycles) c.buffer (votes_binary n cycles all) (omega (arith, few, long, room)));
    }

sent : SentReadBack
sent c bits fit e s =
    let b = bits_all c.input c.first c.count in
    let room = (tests c).room fit in
    let read : result_of c ≡ reply_result Whole (filled_of 0 c.buffer bits) =
    (tests c).reads fit ∙ ap (λ n. read_of n c.buffer (range_of c)) e ∙ sent_read bits (range_of c) s b c.buffer in
    record {
      whole = ap (λ (r : ReplyResult). r.reply) read;
      exact = subst (λ (r : ReplyResult). HoldsBits bits c.buffer r.buffer) (sym read)
          (filled_holds bits c.buffer (sent_binary bits (range_of c) s b c.buffer) (omega (arith, e, room)));
    }

-- A line as it is sent.
sent_group : (bits after : List ℕ) (i : ℕ) → i < length bits → take 8 (drop (8 * i) (repeated 8 bits ++ after)) ≡ replicate 8 (get_or bits i 0)
sent_group [] after i h = absurd (omega arith)
sent_group (bit ∷ bits) after zero h = refl
sent_group (bit ∷ bits) after (suc i) h =
    let on : 8 * suc i ≡ 8 + 8 * i = omega arith in
    rw on (ap (take 8) (sym (drop-drop (8 * i) 8 (repeated 8 (bit ∷ bits) ++ after))) ∙ sent_group bits after i (omega arith))

sent_long : (bits : List ℕ) → length (repeated 8 bits) ≡ 8 * length bits
sent_long [] = refl
sent_long (bit ∷ bits) = let rest = sent_long bits in omega (arith, rest)

none_inverted : (bit : ℕ) → inverted_in bit (replicate 8 bit) ≡ 0
none_inverted bit = rw (eq-eqb bit bit refl)

met : SentMet
met bits after = record {
  place = 0;
  starts = refl;
  earliest = λ i h. absurd (omega arith);
  inside = let long = sent_long bits in let all = length-append (repeated 8 bits) after in omega (arith, long, all);
  few = λ i h.
      let group : take 8 (drop (5 + 8 * i) (header ++ (repeated 8 bits ++ after))) ≡ replicate 8 (get_or bits i 0) =
      ap (take 8) (sym (drop-drop (8 * i) 5 (header ++ (repeated 8 bits ++ after)))) ∙ sent_group bits after i h in
      let none : inverted_in (get_or bits i 0) (take 8 (drop (5 + 8 * i) (header ++ (repeated 8 bits ++ after)))) ≡ 0 =
      ap (inverted_in (get_or bits i 0)) group ∙ none_inverted (get_or bits i 0) in
      omega (arith, none);
}

pub seventh_promise : SeventhPromise
seventh_promise =
    record { numbered = λ c. (tests c).numbered; place = found_at; not_found = not_found; found = found; sent = sent; met = met; in_numbers = reply_examples }
