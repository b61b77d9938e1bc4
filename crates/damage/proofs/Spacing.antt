-- The zeros of a clean stream are enough: no record after its first command's is too close to the one before, whether that one's command is damaged or not.
-- Assumes nothing.
use mathlib.Core.Bool.{Bool, true, false, not, ◌&&◌, and-false}
use mathlib.Core.List.{List, [], ◌∷◌, ◌++◌}
use mathlib.Core.Logic.{⊎_elim}
use mathlib.Core.Path.{◌≡◌, ◌∙◌, refl, sym, ap}
use Prim.Native.Nat.{ℕ, ◌+◌, ◌-◌, ◌<◌, ◌≤◌}
use native.Mathlib.Omega.{arith}
use lib.Dec.{eqb, ltb, leb, T, leb→le, eqb→eq}
use borrow.Author.Tests.{le-ltb, lt-ltb, ltb-true}
use Rattle.bits.proofs.Truth.{clash, cases, either, or_left, or_right, cond_most, and_left, and_right}
use Rattle.recogniser.specs.declared.Request.TheVariants.{Nothing, Lv1, Fast, BadFast, Slow}
use Rattle.records.specs.declared.Record.{Record}
use Rattle.records.specs.Records.{kind_lv1, kind_fast, kind_bad_fast, flag_sent}
use Rattle.timing.specs.declared.Earlier.{Earlier}
use Rattle.timing.specs.Table.{zeros_asked}
use Rattle.timing.specs.TooClose.{is_none, earlier_below, cycles_back, too_close}
use Rattle.timing.proofs.Distance.{without_subtraction}
use Rattle.timing.proofs.TableWhole.{asked_most}
use Rattle.clean_streams.specs.Commands.{Command, lv1, bcr, ecr, cal, sync, width_of, command_kind}
use Rattle.damage.specs.Requests.{request_of}
use Rattle.clean_streams.specs.CleanStreams.{Item, item_size, zeros_between, spaced, timed}
use Rattle.damage.specs.Table.{Replacement, nothing, at}
use Rattle.damage.specs.Records.{Ahead, request_records, ahead_after, last_cycle, item_ahead, clean_records, replacement_ahead}
use Rattle.damage.specs.Comparison.{InTime, OnlyFirst}
use Rattle.clean_streams.proofs.FiniteFacts.{each_at}
use Rattle.damage.proofs.Replacements.{Passes}

-- A record's length is its command's.
length_is : (c : Command) → cycles_back (command_kind c) 0 + 1 ≡ width_of c
length_is = each_at (λ c. cycles_back (command_kind c) 0 + 1) width_of refl

abbrev close : Earlier → ℕ → Item → Bool
close e n j = too_close e (last_cycle n j) (command_kind j.command) 0

-- An earlier record with as many zeros behind it as are asked.
in_time_lem : (e : Earlier) (n : ℕ) (j : Item) → (is_none e ≡ false → e.time + zeros_asked e.kind (command_kind j.command) < n + j.ahead) → close e n j ≡ false
in_time_lem e n j far =
    let kind = command_kind j.command in
    let long = length_is j.command in
    without_subtraction e (last_cycle n j) kind 0
    ∙ ⊎_elim (λ none. rw none)
    (λ some.
    let h = far some in
    let after = le-ltb (last_cycle n j) (e.time + (cycles_back kind 0 + 1) + zeros_asked e.kind kind) (omega arith) in
    ap (λ b. not (is_none e) && b) after ∙ and-false (not (is_none e)))
    (cases (is_none e))

-- After a command's own record.
pub own_earlier : (a : Ahead) (time : ℕ) (c : Command) → (ahead_after a time (request_of c)).earlier ≡ record { time = time; kind = command_kind c }
own_earlier a time lv1 = refl
own_earlier a time bcr = refl
own_earlier a time ecr = refl
own_earlier a time cal = refl
own_earlier a time sync = refl

module _ (a : Ahead) (n : ℕ) (i : Item) where
  pub below_item : earlier_below (item_ahead a n i).earlier (n + item_size i) ≡ true
  below_item =
      let long = length_is i.command in
      rw (own_earlier a (last_cycle n i) i.command)
      (or_right (eqb (command_kind i.command) 0) (ltb (last_cycle n i) (n + item_size i)) (lt-ltb (last_cycle n i) (n + item_size i) (omega arith)))

  own_in_time : (j : Item) → zeros_between i.command j.command ≤ j.ahead → close (item_ahead a n i).earlier (n + item_size i) j ≡ false
  own_in_time j asked =
      let long = length_is i.command in
      rw (own_earlier a (last_cycle n i) i.command)
      (in_time_lem (record { time = last_cycle n i; kind = command_kind i.command }) (n + item_size i) j (λ _. omega arith))

-- An LV1 and a bad Fast ask nothing.
lv1_asks : (c : Command) → zeros_asked kind_lv1 (command_kind c) ≡ 0
lv1_asks = each_at (λ c. zeros_asked kind_lv1 (command_kind c)) (λ c. 0) refl

bad_fast_asks : (c : Command) → zeros_asked kind_bad_fast (command_kind c) ≡ 0
bad_fast_asks = each_at (λ c. zeros_asked kind_bad_fast (command_kind c)) (λ c. 0) refl

-- What the table puts in a command's place comes at its last bit at the latest, and asks zeros only if it is the command itself. A command that it leaves
-- out has more bits than any record asks zeros.
abbrev pub gives_way : Command → Replacement → Bool
gives_way c nothing = leb 4 (width_of c)
gives_way c (at p (Lv1 position)) = leb p (width_of c)
gives_way c (at p (BadFast body)) = leb p (width_of c)
gives_way c (at p (Fast body)) = leb p (width_of c) && eqb (kind_fast body) (command_kind c)
gives_way c (at p Nothing) = false
gives_way c (at p (Slow slow)) = false

pub gives_way_lem : Passes gives_way
gives_way_lem = record { own = refl; hit = refl; near = refl }

-- The record before the next command, which begins at cycle n or later: it lies before that cycle, and zeros enough after the command c are enough after it.
pub record Yields (c : Command) (n : ℕ) (e : Earlier) : Type 0 where
  pub below : earlier_below e n ≡ true
  pub asks : (j : Item) → zeros_between c j.command ≤ j.ahead → is_none e ≡ false → e.time + zeros_asked e.kind (command_kind j.command) < n + j.ahead

-- one at a time below n, of a kind that asks no more than c
yields : (c : Command) (n time kind : ℕ) → time < n → ((d : Command) → zeros_asked kind (command_kind d) ≤ zeros_between c d)
    → Yields c n (record { time = time; kind = kind })
yields c n time kind low few = record {
  below = or_right (eqb kind 0) (ltb time n) (lt-ltb time n low);
  asks = λ j asked _. let f = few j.command in omega arith;
}

module _ (a : Ahead) (n t : ℕ) (c : Command) (below : earlier_below a.earlier n ≡ true) where
  -- the cycle of a command's bit p
  last_bit : (p : ℕ) → T (leb p (width_of c)) → n + t + (p - 1) < n + (t + width_of c)
  last_bit p h = let last = leb→le p (width_of c) h in let long = length_is c in omega arith

  pub replaced_yields : (x : Replacement) → T (gives_way c x) → Yields c (n + (t + width_of c)) (replacement_ahead a (n + t) x).earlier
  replaced_yields nothing h =
      let four = leb→le 4 (width_of c) h in
      let low : is_none a.earlier ≡ false → a.earlier.time < n =
      λ some. ⊎_elim (λ none. clash none some) (λ b. ltb-true a.earlier.time n b) (either (is_none a.earlier) (ltb a.earlier.time n) below) in
      record {
        below = ⊎_elim (λ none. or_left (is_none a.earlier) _ none)
            (λ some. let l = low some in or_right (is_none a.earlier) _ (lt-ltb a.earlier.time (n + (t + width_of c)) (omega arith)))
            (cases (is_none a.earlier));
        asks = λ j asked some. let l = low some in let most = asked_most a.earlier.kind (command_kind j.command) in omega arith;
      }
  replaced_yields (at p (Lv1 position)) h = yields c _ (n + t + (p - 1)) kind_lv1 (last_bit p h) (λ d. let none = lv1_asks d in omega arith)
  replaced_yields (at p (BadFast body)) h = yields c _ (n + t + (p - 1)) kind_bad_fast (last_bit p h) (λ d. let none = bad_fast_asks d in omega arith)
  replaced_yields (at p (Fast body)) h =
      let same = eqb→eq (kind_fast body) (command_kind c) (and_right (leb p (width_of c)) _ h) in
      yields c _ (n + t + (p - 1)) (kind_fast body) (last_bit p (and_left (leb p (width_of c)) _ h)) (λ d. rw same (omega arith))
  replaced_yields (at p Nothing) h = absurd h
  replaced_yields (at p (Slow slow)) h = absurd h

-- The next record is flagged after neither of two earlier ones, or after both.
abbrev pub Alike : Earlier → Earlier → ℕ → List Item → Type 0
Alike e f n [] = Unit {0}
Alike e f n (j ∷ js) = close e n j ≡ close f n j

pub alike_equal : (e f : Earlier) → e ≡ f → (n : ℕ) (is : List Item) → Alike e f n is
alike_equal e f p n [] = tt
alike_equal e f p n (j ∷ js) = ap (λ e. close e n j) p

asked_ahead : (c : Command) (j : Item) (js : List Item) → T (spaced c (j ∷ js)) → zeros_between c j.command ≤ j.ahead
asked_ahead c j js h = leb→le (zeros_between c j.command) j.ahead (and_left (leb (zeros_between c j.command) j.ahead) _ h)

-- In the clean run behind a command, and in another behind a record that yields.
pub alike_next : (a : Ahead) (n : ℕ) (i : Item) (e : Earlier) → Yields i.command (n + item_size i) e → (is : List Item) → T (spaced i.command is)
    → Alike (item_ahead a n i).earlier e (n + item_size i) is
alike_next a n i e y [] h = tt
alike_next a n i e y (j ∷ js) h =
    let asked = asked_ahead i.command j js h in
    own_in_time a n i j asked ∙ sym (in_time_lem e (n + item_size i) j (y.asks j asked))

-- Only the first record of a clean stream can be flagged.
module _ (sent : Bool) where
  sent_low : flag_sent sent ≤ 4
  sent_low = cond_most sent (omega arith) (omega arith)

  one_in_time : (a : Ahead) (time : ℕ) (c : Command) (rest : List Record) → too_close a.earlier time (command_kind c) 0 ≡ false → InTime rest
      → InTime (request_records sent a time (request_of c) ++ rest)
  one_in_time a time lv1 rest e r = (let low = sent_low in rw e (omega arith), r)
  one_in_time a time bcr rest e r = (rw e, r)
  one_in_time a time ecr rest e r = (rw e, r)
  one_in_time a time cal rest e r = (rw e, r)
  one_in_time a time sync rest e r = (rw e, r)

  after_item : (a : Ahead) (n : ℕ) (i : Item) (is : List Item) → T (spaced i.command is) → InTime (clean_records sent (item_ahead a n i) (n + item_size i) is)
  after_item a n i [] h = tt
  after_item a n i (j ∷ js) h =
      one_in_time (item_ahead a n i) (last_cycle (n + item_size i) j) j.command _ (own_in_time a n i j (asked_ahead i.command j js h))
      (after_item (item_ahead a n i) (n + item_size i) j js (and_right (leb (zeros_between i.command j.command) j.ahead) _ h))

  first_of : (a : Ahead) (time : ℕ) (c : Command) (rest : List Record) → InTime rest → OnlyFirst (request_records sent a time (request_of c) ++ rest)
  first_of a time lv1 rest r = r
  first_of a time bcr rest r = r
  first_of a time ecr rest r = r
  first_of a time cal rest r = r
  first_of a time sync rest r = r

  pub only_first : (a : Ahead) (n : ℕ) (is : List Item) → T (timed is) → OnlyFirst (clean_records sent a n is)
  only_first a n [] h = tt
  only_first a n (i ∷ is) h = first_of a (last_cycle n i) i.command _ (after_item a n i is h)
