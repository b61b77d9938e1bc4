-- The input's end.
-- Assumes nothing.
use mathlib.Core.Bool.{Bool, true, false, cond}
use mathlib.Core.List.{List, [], ◌∷◌}
use mathlib.Core.Path.{◌≡◌, ◌∙◌, refl, sym, ap}
use Prim.Native.Nat.{ℕ, zero, suc, ◌≤◌}
use native.Mathlib.Omega.{arith}
use lib.Dec.{eqb}
use lib.ListN.{length, take}
use borrow.Author.Tests.{not-true, not-false}
use Rattle.orders.specs.Streams.{stream_of}
use Rattle.line_meanings.specs.Lines.{is_empty}
use Rattle.gathered_lines.specs.Gathering.{text_so_far, texts_from}
use Rattle.order_refusals.specs.Refusals.{refused_if, refusal_in, orders_in}
use Rattle.compositions.specs.declared.Composition.{Composition}
use Rattle.compositions.specs.Compositions.{with_lines, still_lines, composition_of, WellFormed}
use Rattle.line_ends.specs.LineEnds.{Lent, EndsLine}
use Rattle.order_texts.specs.Running.{EndsInput}
use Rattle.order_texts.proofs.BlockLoop.{over}

-- No lines more.
no_more : (s : Composition) (out : List ℕ) → still_lines s out [] ≡ composition_of s out
unfolding still_lines with_lines refusal_in orders_in stream_of composition_of
no_more s out = refl

-- Whether the present line has characters.
has_none : (n : ℕ) (buffer : List ℕ) → n ≡ 0 → is_empty (take n buffer) ≡ true
has_none n buffer e = rw e

has_some : (n : ℕ) (buffer : List ℕ) → n ≤ length buffer → (n ≡ 0 → ⊥) → is_empty (take n buffer) ≡ false
has_some zero buffer h n = absurd (n refl)
has_some (suc n) [] h m = absurd (omega arith)
has_some (suc n) (c ∷ cs) h m = refl

module _ {s : Composition} {buffer out frame : List ℕ} (w : WellFormed s out) (l : Lent buffer frame) where
  pub ends_over : over s ≡ true → EndsInput s buffer out s out
  unfolding composition_of still_lines texts_from
  ends_over o = record { well_formed = w; same = simp (not-true (eqb (refused_if s.refusal).number 0) o) }

  pub ends_empty : s.line.length ≡ 0 → EndsInput s buffer out s out
  unfolding texts_from
  ends_empty z =
      let none = has_none s.line.length buffer z in
      record { well_formed = w; same = sym (no_more s out) ∙ ap (still_lines s out) (sym (ap (λ (t : Bool). cond t [] (text_so_far s.line buffer ∷ [])) none)) }

  pub ends_line : over s ≡ false → (s.line.length ≡ 0 → ⊥) → (r : Composition) (now : List ℕ) → EndsLine s buffer out r now → EndsInput s buffer out r now
  unfolding texts_from still_lines
  ends_line o n r now ended =
      let some : is_empty (take s.line.length buffer) ≡ false = has_some s.line.length buffer (omega (arith, w.short, l.line_long)) n in
      record {
        well_formed = ended.well_formed;
        same = sym (no_more r now) ∙ ended.same [] ∙ sym (simp (not-false (eqb (refused_if s.refusal).number 0) o, some));
      }
