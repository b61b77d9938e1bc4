-- The end of a line: it is too long, has a reason why it is no order, is blank, or is an order.
-- Assumes nothing.
use Rattle.std.proofs.Common.{Option, Some, None, ap, ◌≡◌, ℕ, Bool, true, false, cond, eqb, List, ◌∷◌, sym, refl, ◌∙◌, arith, eq-eqb, ne_eqb}
use Rattle.orders.specs.Streams.{stream_of}
use Rattle.order_lines.specs.Lines.{LineMeaning, line_meaning}
use Rattle.gathered_lines.specs.Gathering.{LineText, text_so_far}
use Rattle.order_lines.specs.Lines.{reason_of}
use Rattle.order_lines.specs.declared.LineFault.{LineFault}
use Rattle.order_lines.specs.declared.LineFault.TheVariants.{UnknownName, OtherCount, WrongField}
use Rattle.order_messages.specs.declared.Reason.TheVariants.{LongLine}
use Rattle.order_refusals.specs.declared.Refusal.{Refusal}
use Rattle.order_refusals.specs.declared.Refusal.TheVariants.{Line}
use Rattle.order_refusals.specs.Refusals.{Refused, refusal, refused, next_line_number, meaning_context}
use Rattle.order_refusals.specs.Refusals.{meaning_orders, meaning_refusal, line_refusal, refusal_in, orders_in}
use Rattle.compositions.specs.declared.Composition.{Composition}
use Rattle.compositions.specs.Compositions.{Composed, refused_with, passed_with, end_with, unless_refused}
use Rattle.compositions.specs.Compositions.{with_lines, still_lines, order_and, WellFormed, AddsOrder}
use Rattle.line_ends.specs.LineEnds.{EndsLine}

pub fault_reason : (f : LineFault) → reason_of f ≡ 0 → ⊥
fault_reason UnknownName z = omega (arith, z)
fault_reason OtherCount z = omega (arith, z)
fault_reason WrongField z = omega (arith, z)

-- A refusal ahead of others.
pub refused_ahead : (r : Refused) (c : Composed) → (r.number ≡ 0 → ⊥) → unless_refused r c ≡ refused_with r
refused_ahead r c n = rw (ne_eqb r.number 0 n)

first_of_two : (a b : Refused) (c : Composed) → unless_refused (cond (eqb a.number 0) b a) c ≡ unless_refused a (unless_refused b c)
first_of_two a b c = by (eqb a.number 0) refl
  where
    by : (t : Bool) → eqb a.number 0 ≡ t → unless_refused (cond (eqb a.number 0) b a) c ≡ unless_refused a (unless_refused b c)
    by true e = rw e
    by false e = simp e

passed_formed : {s : Composition} {out : List ℕ} → WellFormed s out → (lines : ℕ) (r : Option Refusal) → WellFormed (passed_with s lines r) out
passed_formed w lines r = record { fits = w.fits; placed = w.placed; short = omega arith; whole = w.whole }

module _ (s : Composition) (buffer out : List ℕ) (w : WellFormed s out) (lines : ℕ) (counted : lines ≡ next_line_number s.lines) where
  abbrev text : LineText
  text = text_so_far s.line buffer

  -- the line and those behind it
  by_line_lem : (texts : List LineText) → with_lines s out (text ∷ texts)
      ≡ unless_refused (line_refusal s.context lines text)
      (unless_refused (refusal_in (meaning_context s.context (line_meaning text.text)) lines texts)
      (end_with s out (stream_of (meaning_orders (line_meaning text.text) (orders_in texts)))))
  unfolding with_lines refusal_in orders_in
  by_line_lem texts =
      rw (← counted)
      (first_of_two (line_refusal s.context lines text) (refusal_in (meaning_context s.context (line_meaning text.text)) lines texts) _)

  -- by the run that a line leaves
  pub left_as : {t u : Composition} {now : List ℕ} → t ≡ u → EndsLine s buffer out u now → EndsLine s buffer out t now
  left_as e l = rw e l

  -- a line that is refused
  line_refused : (r : Refusal) → ((refused r).number ≡ 0 → ⊥) → line_refusal s.context lines text ≡ refused r
      → EndsLine s buffer out (passed_with s lines (Some r)) out
  unfolding still_lines
  line_refused r n e = record {
    well_formed = passed_formed w lines (Some r);
    fresh = refl;
    same = λ texts. refused_ahead (refused r) _ n ∙ sym (by_line_lem texts ∙ rw e (refused_ahead (refused r) _ n));
  }

  pub too_long : s.line.long ≡ true → EndsLine s buffer out (passed_with s lines (Some (Line lines LongLine))) out
  unfolding line_refusal
  too_long l = line_refused (Line lines LongLine) (λ z. omega (arith, z)) (rw l)

  module _ (l : s.line.long ≡ false) (m : LineMeaning) (e : m ≡ line_meaning text.text) where
    by_meaning : line_refusal s.context lines text ≡ meaning_refusal s.context lines m
    unfolding line_refusal
    by_meaning = rw (l, ← e)

    pub no_order : (m.reason ≡ 0 → ⊥) → (r : Refusal) → refused r ≡ refusal 9 lines m.reason 0 0 → EndsLine s buffer out (passed_with s lines (Some r)) out
    unfolding meaning_refusal
    no_order n r f =
        line_refused r (λ z. let nine = ap (λ (t : Refused). t.number) f in omega (arith, nine, z)) (by_meaning ∙ rw (ne_eqb m.reason 0 n, f))

    module _ (r : m.reason ≡ 0) where
      pub blank : m.blank ≡ true → EndsLine s buffer out (passed_with s lines None) out
      unfolding still_lines with_lines meaning_refusal
      blank b = record {
        well_formed = passed_formed w lines None;
        fresh = refl;
        same = λ texts. sym (by_line_lem texts ∙ rw (by_meaning, ← e) (simp (eq-eqb m.reason 0 r, b)));
      }

      pub an_order : m.blank ≡ false → (t : Composition) (now : List ℕ) → AddsOrder s out lines m.order m.lent t now → EndsLine s buffer out t now
      unfolding stream_of order_and meaning_refusal
      an_order b t now a = record {
        well_formed = a.well_formed;
        fresh = a.fresh;
        same = λ texts. a.same texts ∙ sym (by_line_lem texts ∙ rw (by_meaning, ← e) (simp (eq-eqb m.reason 0 r, b)));
      }
