-- The lines of a text of which none is refused are fit orders, and their stream is what the composing call writes.
-- Assumes nothing.
use mathlib.Core.Path.{◌≡◌, ◌∙◌, refl, sym, ap, subst}
use mathlib.Core.Bool.{Bool, true, false, cond}
use mathlib.Core.List.{List, [], ◌∷◌}
use Prim.Native.Nat.{ℕ, ◌+◌, ◌*◌, ◌/◌, ◌≤◌}
use native.Mathlib.Omega.{arith}
use lib.Dec.{leb, eqb}
use lib.ListN.{length, take}
use lib.Seq.{sets, sets-eq, take_at}
use borrow.Author.Tests.{eq-eqb, eqb-true, eqb-false, leb-true}
use Rattle.limits.specs.Limits.{clock_limit}
use Rattle.bits.proofs.Truth.{clash, both}
use Rattle.plans.specs.declared.Plan.{Plan}
use Rattle.plans.specs.Plan.{plan_fits, default_plan}
use Rattle.timing.specs.Table.{zeros_asked}
use Rattle.orders.specs.declared.Order.{Order}
use Rattle.orders.specs.declared.Context.{Context}
use Rattle.orders.specs.Composed.{Composed}
use Rattle.orders.specs.Fields.{Ordered, frame_count}
use Rattle.orders.specs.Streams.{stream_of, packed}
use Rattle.orders.specs.Composing.{start, composed, context_after, order_number, refusal_from, room_fits, ComposeResult, compose_result, compose_of}
use Rattle.orders.proofs.Packing.{packed_length}
use Rattle.orders.proofs.OrderByOrder.{refusal_later}
use Rattle.line_meanings.specs.Lines.{lines_of}
use Rattle.order_lines.specs.Lines.{LineMeaning, line_meaning}
use Rattle.gathered_lines.specs.Gathering.{LineText, line_texts}
use Rattle.order_refusals.specs.Refusals.{Refused, refusal, no_refusal, other_bits, long_line}
use Rattle.order_refusals.specs.Refusals.{few_zeros, order_refusal, meaning_refusal, line_refusal, meaning_context}
use Rattle.order_refusals.specs.Refusals.{ordered, next_line_number, refusal_in, orders_in}
use Rattle.compositions.specs.Compositions as texts
use Rattle.compositions.specs.Compositions.{output_limit, refused_with, too_long}
use Rattle.order_texts.specs.Composed.{written_of, composed_of}
use Rattle.stream_promises.specs.Composing.{text_orders, IsTheCall, ProgramComposes}

-- What the composing call writes, and the bytes that it fills.
call_writes : (plan : Plan) (xs : List Ordered) (output : List ℕ) → plan_fits plan ≡ true → (refusal_from plan start 0 xs).number ≡ 0
    → room_fits (length (stream_of xs)) (length output) ≡ true
    → compose_of plan xs output ≡ compose_result (composed 0 0 (length (stream_of xs))) (sets output 0 (packed (stream_of xs)))
unfolding compose_of
call_writes plan xs output fits none room = rw (fits, eq-eqb (refusal_from plan start 0 xs).number 0 none, room)

written_first : (bits output : List ℕ) → length bits ≤ 8 * length output → take ((length bits + 7) / 8) (sets output 0 (packed bits)) ≡ packed bits
written_first bits output enough =
    let long = packed_length bits in
    rw (sets-eq (packed bits) output 0 (omega (arith, long))) (take_at (packed bits) _ ((length bits + 7) / 8) long)

-- An order that is not refused.
number_by : (c : Context) (n number asked given bits counted : ℕ) (none nine : Bool) → eqb number 0 ≡ none → eqb number 9 ≡ nine
    → (cond none no_refusal (cond nine (refusal 9 n other_bits counted bits) (refusal number n few_zeros asked given))).number ≡ 0 → number ≡ 0
number_by c n number asked given bits counted true nine e f h = eqb-true number 0 e
number_by c n number asked given bits counted false true e f h = absurd (omega (arith, h))
number_by c n number asked given bits counted false false e f h = h

order_fits : (c : Context) (n : ℕ) (o : Order) (bytes : ℕ) → (order_refusal c n o bytes).number ≡ 0 → order_number c o bytes ≡ 0
unfolding order_refusal
order_fits c n o bytes h =
    let number = order_number c o bytes in
    number_by c n number (zeros_asked c.last o.kind) o.zeros o.bits (frame_count o.kind c.cnt) (eqb number 0) (eqb number 9) refl refl h

-- What a line means that is not refused: nothing, or an order that is fit.
record Passes (c : Context) (m : LineMeaning) : Type 0 where
  fits : m.blank ≡ false → order_number c m.order (length m.lent) ≡ 0

meaning_by : (c : Context) (n : ℕ) (m : LineMeaning) (right blank : Bool) → eqb m.reason 0 ≡ right → m.blank ≡ blank
    → (cond right (cond blank no_refusal (order_refusal c n m.order (length m.lent))) (refusal 9 n m.reason 0 0)).number ≡ 0 → Passes c m
meaning_by c n m true true e f h = record { fits = λ g. clash f g }
meaning_by c n m true false e f h = record { fits = λ _. order_fits c n m.order (length m.lent) h }
meaning_by c n m false blank e f h = absurd (omega (arith, h))

meaning_passes : (c : Context) (n : ℕ) (m : LineMeaning) → (meaning_refusal c n m).number ≡ 0 → Passes c m
unfolding meaning_refusal
meaning_passes c n m h = meaning_by c n m (eqb m.reason 0) m.blank refl refl h

line_by : (c : Context) (n : ℕ) (m : LineMeaning) (long : Bool) → (cond long (refusal 9 n long_line 0 0) (meaning_refusal c n m)).number ≡ 0 → Passes c m
line_by c n m true h = absurd (omega (arith, h))
line_by c n m false h = meaning_passes c n m h

line_passes : (c : Context) (n : ℕ) (t : LineText) → (line_refusal c n t).number ≡ 0 → Passes c (line_meaning t.text)
unfolding line_refusal
line_passes c n t h = line_by c n (line_meaning t.text) t.long h

-- A line ahead of others.
module _ (c : Context) (m : ℕ) (x : LineMeaning) (xs : List Ordered) (later : (k : ℕ) → (refusal_from default_plan (meaning_context c x) k xs).number ≡ 0) where
  ahead_by : Passes c x → (blank : Bool) → x.blank ≡ blank → (refusal_from default_plan c m (cond blank xs (ordered x.order x.lent ∷ xs))).number ≡ 0
  ahead_by p true e =
      subst (λ (d : Context). (refusal_from default_plan d m xs).number ≡ 0) (ap (λ b. cond b c (context_after default_plan c x.order)) e) (later m)
  ahead_by p false e =
      ap (λ (r : Composed). r.number) (refusal_later default_plan c m (ordered x.order x.lent) xs (p.fits e))
      ∙ subst (λ (d : Context). (refusal_from default_plan d (m + 1) xs).number ≡ 0) (ap (λ b. cond b c (context_after default_plan c x.order)) e) (later (m + 1))

-- All lines.
first_by : (r s : Refused) (none : Bool) → eqb r.number 0 ≡ none → (cond none s r).number ≡ 0 → (r.number ≡ 0) × (s.number ≡ 0)
first_by r s true e h = (eqb-true r.number 0 e, h)
first_by r s false e h = absurd (eqb-false r.number 0 e h)

texts_fit : (ts : List LineText) (c : Context) (n : ℕ) → (refusal_in c n ts).number ≡ 0 → (m : ℕ) → (refusal_from default_plan c m (orders_in ts)).number ≡ 0
unfolding refusal_in orders_in refusal_from
texts_fit [] c n h m = refl
texts_fit (t ∷ ts) c n h m =
    let x = line_meaning t.text in
    let next = next_line_number n in
    let both_none = first_by (line_refusal c next t) (refusal_in (meaning_context c x) next ts) (eqb (line_refusal c next t).number 0) refl h in
    ahead_by c m x (orders_in ts) (texts_fit ts (meaning_context c x) next both_none.1) (line_passes c next t both_none.0) x.blank refl

default_fits : plan_fits default_plan ≡ true
unfolding plan_fits
default_fits = refl

module _ (characters output : List ℕ) (whole : length output ≡ output_limit) where
  abbrev xs : List Ordered
  xs = text_orders characters

  abbrev bits : List ℕ
  bits = stream_of xs

  abbrev first : Refused
  first = refusal_in start 0 (line_texts (lines_of characters))

  -- no line is refused, and there is room
  record Passed : Type 0 where
    none : first.number ≡ 0
    room : room_fits (length bits) output_limit ≡ true
    made : (composed_of characters).bytes ≡ packed bits

  passed_by : (none room : Bool) → eqb first.number 0 ≡ none → room_fits (length bits) output_limit ≡ room
      → (r : texts.Composed) → r ≡ cond none (cond room (texts.composed no_refusal (packed bits)) too_long) (refused_with first)
      → composed_of characters ≡ r → r.refusal.number ≡ 0 → Passed
  passed_by true true e f r is same h =
      record { none = eqb-true first.number 0 e; room = f; made = ap (λ (c : texts.Composed). c.bytes) (same ∙ is) }
  passed_by true false e f r is same h = absurd (omega (arith, sym (ap (λ (c : texts.Composed). c.refusal.number) is) ∙ h))
  passed_by false room e f r is same h =
      absurd (eqb-false first.number 0 e (sym (ap (λ (c : texts.Composed). c.refusal.number) is) ∙ h))

  passed : (composed_of characters).refusal.number ≡ 0 → Passed
  unfolding composed_of written_of
  passed h = passed_by (eqb first.number 0) (room_fits (length bits) output_limit) refl refl (composed_of characters) refl refl h

  pub is_the_call : (composed_of characters).refusal.number ≡ 0 → IsTheCall characters output
  is_the_call h =
      let p = passed h in
      let fit : (refusal_from default_plan start 0 xs).number ≡ 0 = texts_fit (line_texts (lines_of characters)) start 0 p.none 0 in
      let room : room_fits (length bits) (length output) ≡ true = ap (room_fits (length bits)) whole ∙ p.room in
      let result = call_writes default_plan xs output default_fits fit room in
      let enough = leb-true (length bits) (8 * length output) (both (leb (length bits) clock_limit) (leb (length bits) (8 * length output)) room).1 in
      let bytes : take ((length bits + 7) / 8) (sets output 0 (packed bits)) ≡ packed bits = written_first bits output enough in
      record {
        accepts = ap (λ (r : ComposeResult). r.answer.number) result;
        bytes = p.made ∙ sym bytes ∙ ap (λ (r : ComposeResult). take ((r.answer.bits + 7) / 8) r.output) (sym result);
      }

pub program_composes : ProgramComposes
program_composes characters output h whole = is_the_call characters output whole h
