-- An order on a line: it is refused, its bits are written, or there is no room for them.
-- Assumes nothing.
use mathlib.Core.Bool.{true, false}
use mathlib.Core.List.{List, ◌++◌}
use mathlib.Core.Path.{◌≡◌, ◌∙◌, refl, sym}
use Prim.Native.Nat.{ℕ, ◌+◌}
use native.Mathlib.Omega.{arith}
use lib.ListN.{length, length-append, length-replicate}
use Rattle.std.proofs.Common.{Option}
use borrow.Author.Tests.{eq-eqb, ne_eqb}
use Rattle.bits.proofs.Truth.{clash}
use Rattle.plans.specs.Plan.{default_plan}
use Rattle.orders.specs.declared.Order.{Order}
use Rattle.orders.specs.declared.Context.{Context}
use Rattle.orders.specs.Fields.{Ordered}
use Rattle.orders.specs.Streams.{zeros, command_bits, order_bits, stream_of}
use Rattle.orders.specs.Composing.{context_after, room_fits}
use Rattle.stream_writer.specs.declared.Writer.{Writer}
use Rattle.stream_writer.specs.Writer.{place_of, Wrote}
use Rattle.composing.specs.Checked.{WidthOf, Room, capped}
use Rattle.gathered_lines.specs.declared.Gathered.{Gathered}
use Rattle.gathered_lines.specs.Gathering.{LineText, empty_line}
use Rattle.order_refusals.specs.declared.Refusal.{Refusal}
use Rattle.order_refusals.specs.Refusals.{refused_if, ordered, order_refusal, refusal_in, orders_in}
use Rattle.compositions.specs.declared.Composition.{Composition}
use Rattle.compositions.specs.Compositions.{output_limit, passed_with, end_of, end_with, unless_refused, with_lines, still_lines, order_and, WellFormed}
use Rattle.compositions.specs.Compositions.{AddsOrder}
use Rattle.compositions.proofs.Rooms.{has_room, gives_room, no_room, beyond, capped_least, capped_whole}

module _ (s : Composition) (out : List ℕ) (w : WellFormed s out) (n : ℕ) (o : Order) (lent : List ℕ)
    (told : Option Refusal) (e : refused_if told ≡ order_refusal s.context n o (length lent)) where
  passed_refused : ((refused_if told).number ≡ 0 → ⊥) → AddsOrder s out n o lent (passed_with s n told) out
  unfolding still_lines order_and
  passed_refused z = record {
    well_formed = record { fits = w.fits; placed = w.placed; short = omega arith; whole = w.whole };
    fresh = refl;
    same = λ texts. rw (← e) (simp (ne_eqb (refused_if told).number 0 z));
  }

  pub order_refused : ((refused_if told).number ≡ 0 → ⊥) → (t : Composition) → t ≡ passed_with s n told → AddsOrder s out n o lent t out
  order_refused z t p = rw p (passed_refused z)

  module _ (z : (refused_if told).number ≡ 0) (width ahead bits : ℕ) (f : WidthOf o width)
      (a : ahead ≡ capped (s.bits + o.zeros)) (b : bits ≡ capped (ahead + width))
      (next : Context) (c : next ≡ context_after default_plan s.context o) (line : Gathered) (empty : line ≡ empty_line) where
    abbrev x : Ordered
    x = ordered o lent

    -- how many bits it has
    count : length (order_bits x) ≡ o.zeros + width
    count = length-append (zeros o.zeros) (command_bits x) ∙ rw (length-replicate, ← f lent)

    abbrev later : Writer → Composition
    later v = record { context = next; writer = v; bits = bits; line = line; lines = n; refusal = told }

    -- what is composed in the end, if the output then holds what it would
    goes_on : (v : Writer) (now : List ℕ) (texts : List LineText) → let more = stream_of (orders_in texts) in
        end_with (later v) now more ≡ end_with s out (order_bits x ++ more) → still_lines (later v) now texts ≡ order_and s out n o lent texts
    unfolding still_lines with_lines order_and
    goes_on v now texts same = rw (← e) (simp (eq-eqb (refused_if told).number 0 z) (λ i. unless_refused (refusal_in (c i) n texts) (same i)))

    -- there is room
    module _ (r : room_fits bits output_limit ≡ true) where
      exact : bits ≡ s.bits + (o.zeros + width)
      exact =
          let low = has_room bits r in
          let second = capped_whole (ahead + width) (omega (arith, b)) in
          let first = capped_whole (s.bits + o.zeros) (omega (arith, a, b, second)) in
          omega (arith, a, b, first, second)

      at_place : place_of s.writer ≡ s.bits
      at_place = w.placed (gives_room s.bits (omega (arith, has_room bits r, exact)))

      pub room_for : Room s.writer out (order_bits x)
      room_for = omega (arith, at_place, count, exact, has_room bits r, w.whole)

      pub order_written : (v : Writer) (now : List ℕ) → Wrote s.writer out (order_bits x) v now → AddsOrder s out n o lent (later v) now
      order_written v now p = record {
        well_formed = record {
          fits = p.fits;
          placed = λ _. omega (arith, p.place, at_place, count, exact);
          short = rw empty (omega arith);
          whole = p.long ∙ w.whole;
        };
        fresh = empty;
        same = λ texts.
            let more = stream_of (orders_in texts) in
            let total : bits + length more ≡ s.bits + length (order_bits x ++ more) = omega (arith, length-append (order_bits x) more, count, exact) in
            goes_on v now texts (λ i. end_of (total i) (p.same more i));
      }

    -- there is none
    pub order_beyond : room_fits bits output_limit ≡ false → AddsOrder s out n o lent (later s.writer) out
    order_beyond r = record {
      well_formed = record { fits = w.fits; placed = λ t. clash t r; short = rw empty (omega arith); whole = w.whole };
      fresh = empty;
      same = λ texts.
          let more = stream_of (orders_in texts) in
          let many = no_room bits r in
          let least = capped_least (s.bits + o.zeros) in
          let most = capped_least (ahead + width) in
          goes_on s.writer out texts
          (beyond (bits + length more) _ (omega (arith, many))
          ∙ sym (beyond (s.bits + length (order_bits x ++ more)) _ (omega (arith, many, a, b, least, most, length-append (order_bits x) more, count))));
    }
