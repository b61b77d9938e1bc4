-- What the check of all orders keeps: what is refused of the orders that are left, and how many bits there are with theirs, is what is said of all.
-- Assumes nothing.
use mathlib.Core.Bool.{true, false}
use mathlib.Core.List.{List, [], ◌∷◌}
use mathlib.Core.Logic.{⊎_elim}
use mathlib.Core.Path.{◌≡◌, ◌∙◌, refl, sym, ap}
use Prim.Native.Nat.{ℕ, ◌+◌, ◌^◌, ◌<◌}
use native.Mathlib.Nat.{zero-add, add_assoc}
use native.Mathlib.Omega.{arith}
use lib.Dec.{leb}
use lib.ListN.{length, length-append, length-replicate}
use borrow.Author.Tests.{lt-leb, leb-false, ne_eqb}
use Rattle.limits.specs.Limits.{clock_limit}
use Rattle.bits.proofs.Truth.{cases}
use Rattle.plans.specs.declared.Plan.{Plan}
use Rattle.orders.specs.declared.Order.{Order}
use Rattle.orders.specs.declared.Context.{Context}
use Rattle.orders.specs.Fields.{Ordered, orders_in}
use Rattle.orders.specs.Streams.{command_bits, stream_of}
use Rattle.orders.specs.Composing.{start, composed, context_after, order_number, refusal_from}
use Rattle.orders.proofs.OrderByOrder.{number_fits, refusal_later, refusal_here}
use Rattle.composing.specs.Checked.{ordered, WidthOf, capped, checked_of}
use Rattle.compose_calls.proofs.OrderLists.{no_orders, cnt_narrow}

-- Counts beyond the clock's are one, however they are added up.
pub capped_more : (a b : ℕ) → capped (capped a + b) ≡ capped (a + b)
capped_more a b =
    ⊎_elim (λ (t : leb a clock_limit ≡ true). rw t)
    (λ (f : leb a clock_limit ≡ false).
    let over = leb-false a clock_limit f in
    rw (f, lt-leb (clock_limit + 1 + b) clock_limit (omega arith), lt-leb (a + b) clock_limit (omega arith)))
    (cases (leb a clock_limit))

capped_twice : (a : ℕ) → capped (capped a) ≡ capped a
capped_twice a =
    let e : capped a ≡ capped a + 0 = omega arith in
    let f : a + 0 ≡ a = omega arith in
    ap capped e ∙ capped_more a 0 ∙ ap capped f

-- The bits of a list of orders, by those of the first.
stream_length : (x : Ordered) (xs : List Ordered)
    → length (stream_of (x ∷ xs)) ≡ x.order.zeros + length (command_bits x) + length (stream_of xs)
unfolding stream_of
stream_length x xs = simp (length-append, length-replicate)

pub record Checking (plan : Plan) (words frames : List ℕ) (context : Context) (bits number : ℕ) (left : List ℕ) : Type 0 where
  pub narrow : context.cnt < 2 ^ 16
  pub low : capped bits ≡ bits
  pub refusal : refusal_from plan context number (orders_in frames left) ≡ refusal_from plan start 0 (orders_in frames words)
  pub counted : capped (bits + length (stream_of (orders_in frames left))) ≡ capped (length (stream_of (orders_in frames words)))

module _ {plan : Plan} {words frames : List ℕ} where
  pub initially : (context : Context) → context ≡ start → Checking plan words frames context 0 0 words
  initially context e =
      rw e
      (record {
        narrow = omega arith;
        low = refl;
        refusal = refl;
        counted = ap capped (zero-add (length (stream_of (orders_in frames words))));
      })

  -- the first order that is left, and the bytes lent for its frame
  module _ {context : Context} {bits number : ℕ} {left : List ℕ} (later : List ℕ) (i : Checking plan words frames context bits number left)
      (o : Order) (lent : List ℕ) (apart : orders_in frames left ≡ ordered o lent ∷ orders_in frames later) where
    -- this order is refused
    pub refused : (n : ℕ) → n ≡ order_number context o (length lent) → (n ≡ 0 → ⊥) → composed n number 0 ≡ checked_of plan (orders_in frames words)
    unfolding checked_of
    refused n e some =
        let all : refusal_from plan start 0 (orders_in frames words) ≡ composed n number 0 =
        sym i.refusal ∙ ap (refusal_from plan context number) apart ∙ refusal_here plan context number (ordered o lent) _ n e some in
        rw all (rw (ne_eqb n 0 some))

    -- it is fit, and the next one follows
    module _ (fit : order_number context o (length lent) ≡ 0) (width : ℕ) (wide : WidthOf o width) where
      abbrev rest : ℕ
      rest = length (stream_of (orders_in frames later))

      all : bits + o.zeros + (width + rest) ≡ bits + length (stream_of (orders_in frames left))
      all =
          let whole = ap (λ (l : List Ordered). length (stream_of l)) apart ∙ stream_length (ordered o lent) (orders_in frames later) in
          omega (arith, whole, wide lent)

      pub again : (next : Context) (more : ℕ) → next ≡ context_after plan context o → more ≡ capped (capped (bits + o.zeros) + width)
          → Checking plan words frames next more (number + 1) later
      again next more e m = record {
        narrow = rw e (cnt_narrow plan context o (length lent) i.narrow (number_fits context o (length lent) fit));
        low = rw m (capped_twice (capped (bits + o.zeros) + width));
        refusal = rw e
            (sym (refusal_later plan context number (ordered o lent) (orders_in frames later) fit)
            ∙ ap (refusal_from plan context number) (sym apart)
            ∙ i.refusal);
        counted = ap (λ (n : ℕ). capped (n + rest)) m
            ∙ capped_more (capped (bits + o.zeros) + width) rest
            ∙ ap capped (add_assoc (capped (bits + o.zeros)) width rest)
            ∙ capped_more (bits + o.zeros) (width + rest)
            ∙ ap capped all
            ∙ i.counted;
      }

  pub over : {context : Context} {bits number : ℕ} {left : List ℕ} → Checking plan words frames context bits number left → length left ≡ 0
      → composed 0 0 bits ≡ checked_of plan (orders_in frames words)
  unfolding checked_of refusal_from stream_of
  over {bits = bits} {left = left} i h =
      let none : orders_in frames left ≡ [] = no_orders frames left h in
      let refusal : refusal_from plan start 0 (orders_in frames words) ≡ composed 0 0 0 = sym i.refusal ∙ ap (refusal_from plan _ _) none in
      let zero_more : bits ≡ bits + 0 = omega arith in
      let count : capped (length (stream_of (orders_in frames words))) ≡ bits =
      sym i.counted ∙ ap (λ (l : List Ordered). capped (bits + length (stream_of l))) none ∙ ap capped (sym zero_more) ∙ i.low in
      rw (refusal, count)
