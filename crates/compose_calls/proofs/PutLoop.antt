-- What writing all orders keeps: those that are left are fit, and with their bits the same bytes stand in the end.
-- Assumes nothing.
use mathlib.Core.Bool.{true}
use mathlib.Core.List.{List, [], ◌∷◌, ◌++◌}
use mathlib.Core.Path.{◌≡◌, ◌∙◌, refl, sym, ap, subst}
use Prim.Native.Nat.{ℕ, ◌+◌}
use lib.ListN.{length}
use Rattle.orders.specs.declared.Order.{Order}
use Rattle.orders.specs.Composed.{Composed}
use Rattle.orders.specs.Fields.{Ordered, order_fits, orders_in}
use Rattle.orders.specs.Streams.{order_bits, stream_of}
use Rattle.orders.specs.Composing.{context_after, order_number}
use Rattle.stream_writer.specs.declared.Writer.{Writer}
use Rattle.stream_writer.specs.Writer.{Fits, Written, Wrote}
use Rattle.stream_writer.proofs.Writing.{nothing_yet, left_as, onward}
use Rattle.stream_writer.proofs.Rests.{room_left}
use Rattle.orders.proofs.OrderByOrder.{number_fits, first_fits, refusal_later}
use Rattle.composing.specs.Checked.{ordered, SomeFit, Room}
use Rattle.composing.proofs.Rooms.{room_as, first_room}
use Rattle.compose_calls.specs.AllFit.{AllFit}
use Rattle.compose_calls.proofs.OrderLists.{no_orders, cnt_narrow}

-- The first of fit orders is fit, and so are the others.
module _ (x : Ordered) (xs : List Ordered) (a : AllFit (x ∷ xs)) where
  number_none : order_number a.context x.order (length x.lent) ≡ 0
  number_none = first_fits a.plan a.context a.number x xs a.none

  fits : order_fits a.context.cnt x.order (length x.lent) ≡ true
  fits = number_fits a.context x.order (length x.lent) number_none

  first_fit : SomeFit x.order (length x.lent)
  first_fit = record { cnt = a.context.cnt; narrow = a.narrow; fits = fits }

  others_fit : AllFit xs
  others_fit = record {
    plan = a.plan;
    context = context_after a.plan a.context x.order;
    number = a.number + 1;
    narrow = cnt_narrow a.plan a.context x.order (length x.lent) a.narrow fits;
    none = ap (λ (r : Composed). r.number) (sym (refusal_later a.plan a.context a.number x xs number_none)) ∙ a.none;
  }

first_bits : (x : Ordered) (xs : List Ordered) → stream_of (x ∷ xs) ≡ order_bits x ++ stream_of xs
unfolding stream_of
first_bits x xs = refl

no_bits : stream_of [] ≡ []
unfolding stream_of
no_bits = refl

pub record Putting (words frames : List ℕ) (from : Writer) (before : List ℕ) (writer : Writer) (out : List ℕ) (left : List ℕ) : Type 0 where
  pub fit : AllFit (orders_in frames left)
  pub written : Written from before (stream_of (orders_in frames words)) writer out (stream_of (orders_in frames left))

module _ {words frames : List ℕ} {from : Writer} {before : List ℕ} where
  pub initially : AllFit (orders_in frames words) → Fits from → Putting words frames from before from before words
  initially a f = record { fit = a; written = nothing_yet f }

  module _ {writer : Writer} {out left : List ℕ} (later : List ℕ) (i : Putting words frames from before writer out left) (o : Order)
      (lent : List ℕ) (apart : orders_in frames left ≡ ordered o lent ∷ orders_in frames later) where
    abbrev rest : List Ordered
    rest = orders_in frames later

    all_fit : AllFit (ordered o lent ∷ rest)
    all_fit = subst AllFit apart i.fit

    pub this_fit : SomeFit o (length lent)
    this_fit = first_fit (ordered o lent) rest all_fit

    bits_left : stream_of (orders_in frames left) ≡ order_bits (ordered o lent) ++ stream_of rest
    bits_left = ap stream_of apart ∙ first_bits (ordered o lent) rest

    pub this_room : Room from before (stream_of (orders_in frames words)) → Room writer out (order_bits (ordered o lent))
    this_room r = first_room writer out (order_bits (ordered o lent)) (stream_of rest) (room_as writer out (sym bits_left) (room_left i.written r))

    pub again : (next : Writer) (now : List ℕ) → Wrote writer out (order_bits (ordered o lent)) next now → Putting words frames from before next now later
    again next now w = record {
      fit = others_fit (ordered o lent) rest all_fit;
      written = onward (order_bits (ordered o lent)) (stream_of rest) (left_as bits_left i.written) w;
    }

  pub over : {writer : Writer} {out left : List ℕ} → Putting words frames from before writer out left → length left ≡ 0
      → Wrote from before (stream_of (orders_in frames words)) writer out
  over {left = left} i h = left_as (ap stream_of (no_orders frames left h) ∙ no_bits) i.written
