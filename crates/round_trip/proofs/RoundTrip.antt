-- A composed stream reads back as its orders, one record each.
-- Assumes nothing.
use mathlib.Core.Bool.{Bool, true, false, cond}
use mathlib.Core.List.{List, [], ◌∷◌, ◌++◌}
use mathlib.Core.Logic.{⊎_elim}
use mathlib.Core.Path.{◌≡◌, ◌∙◌, refl, ap, subst}
use Prim.Native.Nat.{ℕ, ◌+◌}
use native.Mathlib.Omega.{arith}
use lib.Dec.{eqb}
use lib.ListN.{length}
use borrow.Author.Tests.{eqb-true, eqb-false}
use Rattle.bits.proofs.Truth.{cases}
use Rattle.recogniser.specs.Parts.{idle}
use Rattle.records.specs.declared.Record.{Record}
use Rattle.records.specs.Records.{record_words}
use Rattle.plans.specs.declared.Plan.{Plan}
use Rattle.plans.specs.Plan.{plan_fits}
use Rattle.calls.specs.Run.{state_after, words_after}
use Rattle.calls.specs.Turn.{System, Machine, turn_of}
use Rattle.calls.proofs.RunFaithful.{words_append}
use Rattle.calls.proofs.FrameTurns.{system}
use Rattle.calls.proofs.TurnsKept.{kept}
use Rattle.orders.specs.declared.Context.{Context}
use Rattle.orders.specs.Composed.{Composed}
use Rattle.orders.specs.Fields.{Ordered, order_fits}
use Rattle.orders.specs.Streams.{order_bits, stream_of}
use Rattle.orders.specs.Composing.{start, context_after, zeros_fit, order_number, composed, refusal_from}
use Rattle.round_trip.specs.ReadBack.{ShowsEach, opened, RoundTrip}
use Rattle.round_trip.proofs.CntWritten.{zeros_at}
use Rattle.round_trip.proofs.Orders.{Ready, OrderRead, order_read}

-- No refusal: of the first order,
first_free : (number n : ℕ) (rest : Composed) → (cond (eqb number 0) rest (composed number n 0)).number ≡ 0 → (number ≡ 0) × (rest.number ≡ 0)
first_free number n rest h =
    ⊎_elim (λ t. (eqb-true number 0 t, rw t at h)) (λ f. let e : number ≡ 0 = rw f at h in absurd (eqb-false number 0 f e)) (cases (eqb number 0))

both_fit : (fits enough : Bool) → ◌≡◌ {A = ℕ} (cond fits (cond enough 0 10) 9) 0 → (fits ≡ true) × (enough ≡ true)
both_fit true true h = (refl, refl)
both_fit true false h = absurd (omega arith)
both_fit false enough h = absurd (omega arith)

-- and of those behind it.
pub record FirstFits (plan : Plan) (c : Context) (n : ℕ) (x : Ordered) (xs : List Ordered) : Type 0 where
  pub fit : order_fits c.cnt x.order (length x.lent) ≡ true
  pub enough : zeros_fit c x.order ≡ true
  pub rest : (refusal_from plan (context_after plan c x.order) (n + 1) xs).number ≡ 0

pub first_fits : (plan : Plan) (c : Context) (n : ℕ) (x : Ordered) (xs : List Ordered) → (refusal_from plan c n (x ∷ xs)).number ≡ 0
    → FirstFits plan c n x xs
unfolding refusal_from
first_fits plan c n x xs h =
    let o = x.order in
    let free = first_free (order_number c o (length x.lent)) n (refusal_from plan (context_after plan c o) (n + 1) xs) h in
    let fits = both_fit (order_fits c.cnt o (length x.lent)) (zeros_fit c o) free.0 in
    record { fit = fits.0; enough = fits.1; rest = free.1 }

-- Orders from a ready machine on.
record ReadsFrom (m : Machine) (xs : List Ordered) : Type 0 where
  records : List Record
  words : words_after turn_of (system idle m) (stream_of xs) ≡ record_words records
  shows : ShowsEach m.next xs records

-- The recogniser hunts with an empty window behind an order.
module _ {plan : Plan} {c : Context} {m : Machine} {x : Ordered} (f : OrderRead plan c m x) where
  abbrev behind : System
  behind = state_after turn_of (system idle m) (order_bits x)

  pub hunting : behind ≡ system idle behind.machine
  hunting = λ i. system (f.recogniser i) behind.machine

  order_first : (xs : List Ordered) → ReadsFrom behind.machine xs → ReadsFrom m (x ∷ xs)
  unfolding stream_of
  order_first xs rest = record {
    records = f.written ∷ rest.records;
    words = words_append turn_of (system idle m) (order_bits x) (stream_of xs) ∙ (λ i. f.words i ++ words_after turn_of (hunting i) (stream_of xs))
        ∙ ap (λ (l : List ℕ). record_words (f.written ∷ []) ++ l) rest.words;
    shows = (f.shows, subst (λ (n : ℕ). ShowsEach n xs rest.records) (kept (order_bits x) (system idle m)).next rest.shows);
  }

module _ (plan : Plan) (fits : plan_fits plan ≡ true) where
  reads_from : (xs : List Ordered) (c : Context) (n : ℕ) (m : Machine) → Ready plan c m → (refusal_from plan c n xs).number ≡ 0 → ReadsFrom m xs
  unfolding stream_of
  reads_from [] c n m r h = record { records = []; words = refl; shows = tt }
  reads_from (x ∷ xs) c n m r h =
      let first = first_fits plan c n x xs h in
      let f = order_read plan fits c m r x first.fit first.enough in
      order_first f xs (reads_from xs (context_after plan c x.order) (n + 1) _ f.ready first.rest)

-- A fresh opening is ready for any first order.
pub opened_ready : (plan : Plan) (store tray : List ℕ) → Ready plan start (opened plan store tray).machine
opened_ready plan store tray = record {
  plan_is = refl;
  cnt = zeros_at 16 plan.cnt;
  last = refl;
  below = refl;
  sixteen = refl;
  widths = record { l1id = omega arith; each_register = λ n. omega (arith, zeros_at 16 n) };
}

pub round_trip : RoundTrip
round_trip plan store tray xs fit =
    let f = reads_from plan fit.plan_fits_lem xs start 0 (opened plan store tray).machine (opened_ready plan store tray) fit.orders_fit in
    record { records = f.records; words = f.words; shows = f.shows }
