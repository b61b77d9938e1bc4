-- The sixth promise, proved.
-- Assumes nothing.
use mathlib.Core.Path.{◌≡◌, ◌∙◌, refl, sym, ap, subst}
use mathlib.Core.Bool.{Bool, true, false, cond, not, ◌||◌}
use mathlib.Core.List.{List, [], ◌∷◌, ◌++◌, append_assoc, append-nil}
use Prim.Native.Nat.{ℕ, suc, ◌+◌, ◌*◌, ◌≤◌, ◌<◌}
use native.Mathlib.Nat.{zero-add, add-zero}
use native.Mathlib.Omega.{arith}
use lib.Dec.{ltb, leb, eqb}
use lib.ListN.{length, take, length-append}
use lib.Seq.{sets}
use borrow.Author.Tests.{eqb-false, leb-true, le-leb}
use Rattle.limits.specs.Limits.{clock_limit, input_limit}
use Rattle.bits.specs.Bits.{bits_of}
use Rattle.bits.specs.Range.{range_fits}
use Rattle.bits.proofs.Truth.{clash, choice, both}
use Rattle.plans.specs.declared.Plan.{Plan}
use Rattle.plans.specs.Plan.{plan_fits}
use Rattle.orders.specs.declared.Order.{Order}
use Rattle.orders.specs.declared.Context.{Context}
use Rattle.orders.specs.Composed.{Composed}
use Rattle.orders.specs.Fields.{Ordered, is_frame_kind, order_fits}
use Rattle.orders.specs.Streams.{order_bits, stream_of, packed}
use Rattle.orders.specs.Composing.{start, composed, context_after, zeros_fit, order_number, refusal_from, room_fits, ComposeResult, compose_result, compose_of}
use Rattle.patterns.specs.Verdicts.{verdict_of, accept_of}
use Rattle.calls.specs.Calls.{carried_bits}
use Rattle.calls.proofs.SoundnessKept.{opened_sound}
use Rattle.calls.proofs.BitCalls.{parts_for, parts_take}
use Rattle.calls.proofs.FrameEnds.{EndsWithFrame}
use Rattle.orders.proofs.StreamBits.{stream_binary}
use Rattle.orders.proofs.Examples.{compose_examples}
use Rattle.order_lines.proofs.Examples.{line_examples}
use Rattle.order_texts.proofs.Examples.{composed_examples}
use Rattle.order_texts.proofs.Standing.{as_read}
use Rattle.round_trip.specs.ReadBack.{opened, Fit}
use Rattle.round_trip.specs.Bytes.{ComposedBytes}
use Rattle.round_trip.proofs.Bytes.{bytes}
use Rattle.round_trip.proofs.CallsRoundTrip.{calls_round_trip, calls_frame_round_trip}
use Rattle.round_trip.proofs.FrameRoundTrip.{frame_ends}
use Rattle.round_trip.proofs.Acceptance.{composed_accepted}
use Rattle.promises.specs.Refusals.{Row, row, first_of}
use Rattle.stream_promises.specs.Composing.{is_wrong, has_few_zeros, order_rows, rows_from, composing_rows, NamesFirst, Composes}
use Rattle.stream_promises.specs.Composing.{Writes, Accepts, ReadsBack, FrameBack, FrameStops, ReadsBackMet, AcceptedBack, SixthPromise}
use Rattle.promises.proofs.Refusals.{not_leb, not_and, plan_row}
use Rattle.promises.proofs.Frames.{tray_fits}
use Rattle.stream_promises.proofs.OrderRows.{order_rows_lem}
use Rattle.stream_promises.proofs.OrderTexts.{program_composes}
use Rattle.stream_promises.proofs.FrameStops.{frame_stop}

-- The rows of an order ahead of others.
first_two : (a b : Bool) (rest : List Row)
    → first_of ((row 9 a ∷ row 10 b ∷ []) ++ rest) ≡ cond (eqb (first_of (row 9 a ∷ row 10 b ∷ [])) 0) (first_of rest) (first_of (row 9 a ∷ row 10 b ∷ []))
first_two true b rest = refl
first_two false true rest = refl
first_two false false rest = refl

first_order : (c : Context) (x : Ordered) (rest : List Row)
    → first_of (order_rows c x ++ rest)
    ≡ cond (eqb (order_number c x.order (length x.lent)) 0) (first_of rest) (order_number c x.order (length x.lent))
first_order c x rest =
    first_two (is_wrong c x) (has_few_zeros c x) rest ∙ ap (λ (n : ℕ). cond (eqb n 0) (first_of rest) n) (order_rows_lem c x)

-- The rows of all orders, ahead of others.
ahead_of_all : (number n f last : ℕ) (later : Composed) (none : Bool) → eqb number 0 ≡ none → f ≡ cond (eqb later.number 0) last later.number
    → cond (eqb number 0) f number
    ≡ cond (eqb (cond (eqb number 0) later (composed number n 0)).number 0) last (cond (eqb number 0) later (composed number n 0)).number
ahead_of_all number n f last later true e same = rw e same
ahead_of_all number n f last later false e same = rw e (rw e)

rows_number : (plan : Plan) (c : Context) (n : ℕ) (xs : List Ordered) (rest : List Row)
    → first_of (rows_from plan c xs ++ rest) ≡ cond (eqb (refusal_from plan c n xs).number 0) (first_of rest) (refusal_from plan c n xs).number
unfolding rows_from refusal_from
rows_number plan c n [] rest = refl
rows_number plan c n (x ∷ xs) rest =
    let next = context_after plan c x.order in
    let number = order_number c x.order (length x.lent) in
    ap first_of (append_assoc (order_rows c x) (rows_from plan next xs) rest)
    ∙ first_order c x (rows_from plan next xs ++ rest)
    ∙ ahead_of_all number n (first_of (rows_from plan next xs ++ rest)) (first_of rest) (refusal_from plan next (n + 1) xs) (eqb number 0) refl
    (rows_number plan next (n + 1) xs rest)

-- The first refusal, by its order.
record Named (plan : Plan) (c : Context) (n : ℕ) (xs : List Ordered) (refusal : Composed) : Type 0 where
  k : ℕ
  order : refusal.order ≡ n + k
  ahead : first_of (rows_from plan c (take k xs)) ≡ 0
  this : first_of (rows_from plan c (take (k + 1) xs)) ≡ refusal.number

module _ (plan : Plan) (c : Context) (n : ℕ) (x : Ordered) (xs : List Ordered) where
  abbrev next : Context
  next = context_after plan c x.order

  abbrev number : ℕ
  number = order_number c x.order (length x.lent)

  named_here : eqb number 0 ≡ false → Named plan c n (x ∷ xs) (composed number n 0)
  unfolding rows_from
  named_here e = record {
    k = 0;
    order = sym (add-zero n);
    ahead = refl;
    this = first_order c x [] ∙ rw e;
  }

  named_later : eqb number 0 ≡ true → (refusal : Composed) → Named plan next (n + 1) xs refusal → Named plan c n (x ∷ xs) refusal
  unfolding rows_from
  named_later e refusal later =
      let one_on : suc later.k + 1 ≡ suc (later.k + 1) = omega arith in
      record {
        k = suc later.k;
        order = omega (arith, later.order);
        ahead = first_order c x (rows_from plan next (take later.k xs)) ∙ rw e later.ahead;
        this = ap (λ (m : ℕ). first_of (rows_from plan c (take m (x ∷ xs)))) one_on
            ∙ first_order c x (rows_from plan next (take (later.k + 1) xs)) ∙ rw e later.this;
      }

  named_by : (none : Bool) → eqb number 0 ≡ none
      → (((refusal_from plan next (n + 1) xs).number ≡ 0 → ⊥) → Named plan next (n + 1) xs (refusal_from plan next (n + 1) xs))
      → ((cond none (refusal_from plan next (n + 1) xs) (composed number n 0)).number ≡ 0 → ⊥)
      → Named plan c n (x ∷ xs) (cond none (refusal_from plan next (n + 1) xs) (composed number n 0))
  named_by true e later some = named_later e (refusal_from plan next (n + 1) xs) (later some)
  named_by false e later some = named_here e

named : (plan : Plan) (c : Context) (n : ℕ) (xs : List Ordered) → ((refusal_from plan c n xs).number ≡ 0 → ⊥) → Named plan c n xs (refusal_from plan c n xs)
unfolding refusal_from
named plan c n [] some = absurd (some refl)
named plan c n (x ∷ xs) some =
    named_by plan c n x xs (eqb (order_number c x.order (length x.lent)) 0) refl
    (named plan (context_after plan c x.order) (n + 1) xs) some

-- The stream up to an order, and what is behind it.
stream_parts : (before : List Ordered) (x : Ordered) (after : List Ordered)
    → stream_of (before ++ (x ∷ after)) ≡ stream_of (before ++ (x ∷ [])) ++ stream_of after
unfolding stream_of
stream_parts [] x after = ap (λ (l : List ℕ). l ++ stream_of after) (sym (append-nil (order_bits x)))
stream_parts (y ∷ before) x after =
    ap (λ (l : List ℕ). order_bits y ++ l) (stream_parts before x after)
    ∙ sym (append_assoc (order_bits y) (stream_of (before ++ (x ∷ []))) (stream_of after))

-- A refusal has no bits.
no_bits : (plan : Plan) (c : Context) (n : ℕ) (xs : List Ordered) → (refusal_from plan c n xs).bits ≡ 0
unfolding refusal_from
no_bits plan c n [] = refl
no_bits plan c n (x ∷ xs) =
    choice (λ (r : Composed). r.bits ≡ 0) (eqb (order_number c x.order (length x.lent)) 0)
    (λ _. no_bits plan (context_after plan c x.order) (n + 1) xs) (λ _. refl)

-- A refusal of an order is number 9 or 10.
order_numbers : (c : Context) (o : Order) (bytes : ℕ) → (order_number c o bytes ≡ 0 → ⊥)
    → (eqb (order_number c o bytes) 9 || eqb (order_number c o bytes) 10) ≡ true
order_numbers c o bytes = numbers_by (order_fits c.cnt o bytes) (zeros_fit c o)
  where
    numbers_by : (fits enough : Bool) → (cond {A = ℕ} fits (cond enough 0 10) 9 ≡ 0 → ⊥)
        → (eqb (cond {A = ℕ} fits (cond enough 0 10) 9) 9 || eqb (cond {A = ℕ} fits (cond enough 0 10) 9) 10) ≡ true
    numbers_by true true some = absurd (some refl)
    numbers_by true false some = refl
    numbers_by false enough some = refl

not_of_order : (plan : Plan) (c : Context) (n : ℕ) (xs : List Ordered) → ((refusal_from plan c n xs).number ≡ 0 → ⊥)
    → (eqb (refusal_from plan c n xs).number 9 || eqb (refusal_from plan c n xs).number 10) ≡ false → ⊥
unfolding refusal_from
not_of_order plan c n [] some h = some refl
not_of_order plan c n (x ∷ xs) some h =
    of_order_by (order_number c x.order (length x.lent)) n (refusal_from plan (context_after plan c x.order) (n + 1) xs)
    (order_numbers c x.order (length x.lent)) (not_of_order plan (context_after plan c x.order) (n + 1) xs)
    (eqb (order_number c x.order (length x.lent)) 0) refl some h
  where
    of_order_by : (number n : ℕ) (later : Composed) → ((number ≡ 0 → ⊥) → (eqb number 9 || eqb number 10) ≡ true)
        → ((later.number ≡ 0 → ⊥) → (eqb later.number 9 || eqb later.number 10) ≡ false → ⊥) → (none : Bool) → eqb number 0 ≡ none
        → ((cond none later (composed number n 0)).number ≡ 0 → ⊥)
        → (eqb (cond none later (composed number n 0)).number 9 || eqb (cond none later (composed number n 0)).number 10) ≡ false → ⊥
    of_order_by number n later own rest true e some h = rest some h
    of_order_by number n later own rest false e some h = clash (own some) h

-- The numbers of orders are below 256.
refusal_low : (plan : Plan) (c : Context) (n : ℕ) (xs : List Ordered) → (refusal_from plan c n xs).number < 256
unfolding refusal_from
refusal_low plan c n [] = omega arith
refusal_low plan c n (x ∷ xs) =
    choice (λ (r : Composed). r.number < 256) (eqb (order_number c x.order (length x.lent)) 0)
    (λ _. refusal_low plan (context_after plan c x.order) (n + 1) xs)
    (λ _. choice (λ (m : ℕ). m < 256) (order_fits c.cnt x.order (length x.lent))
    (λ _. cond_below (zeros_fit c x.order)) (λ _. omega arith))
  where
    cond_below : (b : Bool) → cond {A = ℕ} b 0 10 < 256
    cond_below true = omega arith
    cond_below false = omega arith

module _ (plan : Plan) (xs : List Ordered) (output : List ℕ) where
  abbrev refusal : Composed
  refusal = refusal_from plan start 0 xs

  abbrev room : Bool
  room = room_fits (length (stream_of xs)) (length output)

  abbrev too_long : Bool
  too_long = ltb clock_limit (length (stream_of xs)) || ltb (8 * length output) (length (stream_of xs))

  long_row : too_long ≡ not room
  long_row =
      (λ i. sym (not_leb (length (stream_of xs)) clock_limit) i || sym (not_leb (length (stream_of xs)) (8 * length output)) i)
      ∙ sym (not_and (leb (length (stream_of xs)) clock_limit) (leb (length (stream_of xs)) (8 * length output)))

  -- The answer and the output, by the plan, the first refusal and the room.
  abbrev by_tests : Bool → Bool → Bool → ComposeResult
  by_tests fits none enough =
      cond (not fits) (compose_result (composed 1 0 0) output)
      (cond none
      (cond enough (compose_result (composed 0 0 (length (stream_of xs))) (sets output 0 (packed (stream_of xs)))) (compose_result (composed 11 0 0) output))
      (compose_result refusal output))

  result_by : compose_of plan xs output ≡ by_tests (plan_fits plan) (eqb refusal.number 0) room
  unfolding compose_of
  result_by = refl

  abbrev number_by : Bool → Bool → Bool → ℕ
  number_by fits none enough = cond (not fits) 1 (cond none (cond (not enough) 11 0) refusal.number)

  number_by_lem : (fits none enough : Bool) → (by_tests fits none enough).answer.number ≡ number_by fits none enough
  number_by_lem false none enough = refl
  number_by_lem true false enough = refl
  number_by_lem true true true = refl
  number_by_lem true true false = refl

  rows_by : first_of (composing_rows plan xs (length output)) ≡ number_by (plan_fits plan) (eqb refusal.number 0) room
  rows_by =
      (λ i. cond (not (sym (plan_row plan) i)) 1 (rows_number plan start 0 xs (row 11 too_long ∷ []) i))
      ∙ ap (λ (l : Bool). cond (not (plan_fits plan)) 1 (cond (eqb refusal.number 0) (cond l 11 0) refusal.number)) long_row

  unchanged_by : (fits none enough : Bool) → ((by_tests fits none enough).answer.number ≡ 0 → ⊥)
      → ((by_tests fits none enough).output ≡ output) × ((by_tests fits none enough).answer.bits ≡ 0)
  unchanged_by false none enough some = (refl, refl)
  unchanged_by true false enough some = (refl, no_bits plan start 0 xs)
  unchanged_by true true true some = absurd (some refl)
  unchanged_by true true false some = (refl, refl)

  low_by : (fits none enough : Bool) → (by_tests fits none enough).answer.number < 256
  low_by false none enough = omega arith
  low_by true false enough = refusal_low plan start 0 xs
  low_by true true true = omega arith
  low_by true true false = omega arith

  pub number_low : (compose_of plan xs output).answer.number < 256
  number_low = subst (λ (r : ComposeResult). r.answer.number < 256) (sym result_by) (low_by (plan_fits plan) (eqb refusal.number 0) room)

  few_by : (fits none enough : Bool) → room ≡ enough → (by_tests fits none enough).answer.bits ≤ clock_limit
  few_by false none enough e = omega arith
  few_by true false enough e = omega (arith, no_bits plan start 0 xs)
  few_by true true true e =
      leb-true (length (stream_of xs)) clock_limit (both (leb (length (stream_of xs)) clock_limit) (leb (length (stream_of xs)) (8 * length output)) e).0
  few_by true true false e = omega arith

  pub bits_low : (compose_of plan xs output).answer.bits ≤ clock_limit
  bits_low = subst (λ (r : ComposeResult). r.answer.bits ≤ clock_limit) (sym result_by) (few_by (plan_fits plan) (eqb refusal.number 0) room refl)

  -- the order that it names
  names_first : (refusal.number ≡ 0 → ⊥) → NamesFirst plan xs refusal
  names_first some =
      let n = named plan start 0 xs some in
      let same : n.k ≡ refusal.order = sym (n.order ∙ zero-add n.k) in
      record {
        ahead = ap (λ (k : ℕ). first_of (rows_from plan start (take k xs))) (sym same) ∙ n.ahead;
        this = ap (λ (k : ℕ). first_of (rows_from plan start (take (k + 1) xs))) (sym same) ∙ n.this;
      }

  abbrev of_order : ℕ → Bool
  of_order number = eqb number 9 || eqb number 10

  first_by : (fits none enough : Bool) → eqb refusal.number 0 ≡ none → of_order (by_tests fits none enough).answer.number ≡ true
      → NamesFirst plan xs (by_tests fits none enough).answer
  first_by false none enough e h = clash h refl
  first_by true false enough e h = names_first (eqb-false refusal.number 0 e)
  first_by true true true e h = clash h refl
  first_by true true false e h = clash h refl

  whole_by : (fits none enough : Bool) → eqb refusal.number 0 ≡ none → of_order (by_tests fits none enough).answer.number ≡ false
      → (by_tests fits none enough).answer.order ≡ 0
  whole_by false none enough e h = refl
  whole_by true false enough e h = absurd (not_of_order plan start 0 xs (eqb-false refusal.number 0 e) h)
  whole_by true true true e h = refl
  whole_by true true false e h = refl

  pub composes : Composes plan xs output
  composes =
      let fits = plan_fits plan in
      let none = eqb refusal.number 0 in
      record {
        number = ap (λ (r : ComposeResult). r.answer.number) result_by ∙ number_by_lem fits none room ∙ sym rows_by;
        unchanged = subst (λ (r : ComposeResult). (r.answer.number ≡ 0 → ⊥) → (r.output ≡ output) × (r.answer.bits ≡ 0)) (sym result_by)
            (unchanged_by fits none room);
        named = subst (λ (r : ComposeResult). of_order r.answer.number ≡ true → NamesFirst plan xs r.answer) (sym result_by)
            (first_by fits none room refl);
        whole = subst (λ (r : ComposeResult). of_order r.answer.number ≡ false → r.answer.order ≡ 0) (sym result_by) (whole_by fits none room refl);
      }

  enough_by : (fits none enough : Bool) → eqb refusal.number 0 ≡ none → (by_tests fits none enough).answer.number ≡ 0 → enough ≡ true
  enough_by false none enough e h = absurd (omega (arith, h))
  enough_by true false enough e h = absurd (eqb-false refusal.number 0 e h)
  enough_by true true true e h = refl
  enough_by true true false e h = absurd (omega (arith, h))

  -- A call that is not refused.
  module _ (accepts : Accepts plan xs output) where
    written : ComposedBytes plan xs output
    written = bytes plan xs output accepts

    pub writes : Writes plan xs output
    writes = record {
      stream = ap (bits_of (compose_of plan xs output).output 0) written.count ∙ written.holds.read;
      count = written.count;
      clock = written.clock;
      holds = written.holds;
    }

    pub reads_back : ReadsBack plan xs output
    reads_back store tray ps took =
        let r = calls_round_trip plan store tray xs ps written.fit (took ∙ writes.stream) in
        record { records = r.records; written = r.words; shows = r.shows }

    module _ (before : List Ordered) (x : Ordered) (after : List Ordered) (parts : xs ≡ before ++ (x ∷ after))
        (carries : is_frame_kind x.order.kind ≡ true) (store tray : List ℕ) where
      fit : Fit plan (before ++ (x ∷ after))
      fit = subst (Fit plan) parts written.fit

      at_frame : EndsWithFrame (opened plan store tray) (stream_of (before ++ (x ∷ [])))
      at_frame = frame_ends plan store tray before x after fit carries

    pub frame_back : FrameBack plan xs output
    frame_back before x after parts carries store tray ps took =
        let f = at_frame before x after parts carries store tray in
        let some : 0 < length (carried_bits (opened plan store tray) ps) =
        omega (arith, ap length (took ∙ f.parts), length-append f.ahead (f.last ∷ [])) in
        calls_frame_round_trip plan store tray before x after ps (fit before x after parts carries store tray) carries
        (tray_fits ps (opened plan store tray) some) took

    pub frame_stops : FrameStops plan xs output
    frame_stops before x after parts carries store tray ps took =
        frame_stop ps (opened plan store tray) (stream_of (before ++ (x ∷ []))) (stream_of after)
        (at_frame before x after parts carries store tray)
        (took ∙ writes.stream ∙ ap stream_of parts ∙ stream_parts before x after)

    pub met : ReadsBackMet plan xs output
    met store tray store_long tray_long = record {
      parts = parts_for (stream_of xs);
      took = parts_take (stream_of xs) (opened plan store tray) store_long tray_long (stream_binary xs)
          (opened_sound plan 0 written.fit.plan_fits_lem (omega arith)) (omega (arith, written.clock))
          ∙ sym writes.stream;
    }

    pub accepted_back : AcceptedBack plan xs output
    unfolding accept_of
    accepted_back only short =
        let enough = enough_by (plan_fits plan) (eqb refusal.number 0) room refl (sym (ap (λ (r : ComposeResult). r.answer.number) result_by) ∙ accepts) in
        let fits = leb-true (length (stream_of xs)) (8 * length output)
        (both (leb (length (stream_of xs)) clock_limit) (leb (length (stream_of xs)) (8 * length output)) enough).1 in
        let long = written.holds.long in
        let after = (compose_of plan xs output).output in
        let count = (compose_of plan xs output).answer.bits in
        let range : range_fits (length after) 0 count ≡ true =
        let within = le-leb (0 + count) (8 * length after) (omega (arith, long, fits, written.count)) in
        simp (le-leb (length after) input_limit (omega (arith, long, short)), within) in
        rw range (ap verdict_of writes.stream ∙ composed_accepted plan xs written.fit only)

pub sixth_promise : SixthPromise
sixth_promise = record {
  composes = composes;
  writes = writes;
  reads_back = reads_back;
  frame_back = frame_back;
  frame_stops = frame_stops;
  met = met;
  accepted_back = accepted_back;
  in_numbers = compose_examples;
  program = program_composes;
  lines = line_examples;
  texts = composed_examples;
  as_read = as_read;
}
