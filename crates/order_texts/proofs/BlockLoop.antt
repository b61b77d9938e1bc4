-- What the loop over a block keeps, and the input's end.
-- Assumes nothing.
use mathlib.Core.Bool.{Bool, true, false, not}
use mathlib.Core.List.{List, [], ◌∷◌, ◌++◌}
use mathlib.Core.Path.{◌≡◌, ◌∙◌, refl, sym, ap}
use Prim.Native.Nat.{ℕ, ◌+◌, ◌≤◌, ◌<◌}
use native.Mathlib.Numerals.{add-one}
use native.Mathlib.Omega.{arith}
use lib.Dec.{eqb}
use lib.ListN.{length, get_or, drop, drop_of_length-le}
use lib.Seq.{drop-cons}
use borrow.Author.Tests.{eq-eqb, not-true, not-false}
use Rattle.output.specs.Ascii.{line_feed}
use Rattle.gathered_lines.specs.declared.Gathered.{Gathered}
use Rattle.gathered_lines.specs.Gathering.{LineText, text_so_far, texts_from, Gathers}
use Rattle.order_refusals.specs.Refusals.{refused_if}
use Rattle.compositions.specs.declared.Composition.{Composition}
use Rattle.compositions.specs.Compositions.{refused_with, with_lines, still_lines, WellFormed}
use Rattle.line_ends.specs.LineEnds.{Lent, EndsLine}
use Rattle.order_texts.specs.Running.{still_composed, ComposesBlock}

-- Whether the run is over, as the code tests it.
abbrev pub over : Composition → Bool
over s = not (eqb (refused_if s.refusal).number 0)

over_still : (s : Composition) (out : List ℕ) (texts : List LineText) → over s ≡ true → still_lines s out texts ≡ refused_with (refused_if s.refusal)
unfolding still_lines
over_still s out texts e = rw (not-true (eqb (refused_if s.refusal).number 0) e)

going_still : (s : Composition) (out : List ℕ) (texts : List LineText) → over s ≡ false → still_lines s out texts ≡ with_lines s out texts
unfolding still_lines
going_still s out texts e = rw (not-false (eqb (refused_if s.refusal).number 0) e)

-- The run with another line so far.
abbrev pub with_line : Composition → Gathered → Composition
with_line s line = record { context = s.context; writer = s.writer; bits = s.bits; line = line; lines = s.lines; refusal = s.refusal }

same_lines : (s : Composition) (line : Gathered) (out : List ℕ) (texts : List LineText) → still_lines (with_line s line) out texts ≡ still_lines s out texts
unfolding still_lines with_lines
same_lines s line out texts = refl

pub record Invariant (from : Composition) (buffer₀ out₀ input : List ℕ) (next : ℕ) (s : Composition) (buffer frame out : List ℕ) : Type 0 where
  pub well_formed : WellFormed s out
  pub lent : Lent buffer frame
  pub within : next ≤ length input
  pub same : (more : List ℕ) → still_composed s buffer out (drop next input ++ more) ≡ still_composed from buffer₀ out₀ (input ++ more)

module _ {from : Composition} {buffer₀ out₀ input : List ℕ} where
  pub initially : {frame : List ℕ} → WellFormed from out₀ → Lent buffer₀ frame → Invariant from buffer₀ out₀ input 0 from buffer₀ frame out₀
  initially w l = record { well_formed = w; lent = l; within = omega arith; same = λ more. refl }

  module _ {next : ℕ} {s : Composition} {buffer frame out : List ℕ} (i : Invariant from buffer₀ out₀ input next s buffer frame out) where
    module _ (some : next < length input) (frame' : List ℕ) (long : length frame' ≡ length frame) where
      abbrev c : ℕ
      c = get_or input next 0

      -- the next character, and those behind it
      split : (more : List ℕ) → drop next input ++ more ≡ c ∷ (drop (next + 1) input ++ more)
      split more = rw (add-one, drop-cons input next 0 some)

      still : Lent buffer frame'
      still = record { line_long = i.lent.line_long; frame_long = long ∙ i.lent.frame_long }

      -- it ends the line
      pub line_ended : over s ≡ false → c ≡ line_feed → (r : Composition) (now : List ℕ) → EndsLine s buffer out r now
          → Invariant from buffer₀ out₀ input (next + 1) r buffer frame' now
      unfolding texts_from
      line_ended goes e r now l = record {
        well_formed = l.well_formed;
        lent = still;
        within = omega arith;
        same = λ more.
            let rest = drop (next + 1) input ++ more in
            let texts = texts_from (record { long = false; text = [] }) rest in
            ap (λ (g : Gathered). still_lines r now (texts_from (text_so_far g buffer) rest)) l.fresh
            ∙ l.same texts
            ∙ sym (going_still s out (text_so_far s.line buffer ∷ texts) goes)
            ∙ rw (← i.same more, split more, eq-eqb c line_feed e);
      }

      -- it goes on with the line
      pub line_open : (c ≡ line_feed → ⊥) → (g : Gathered) (buffer' : List ℕ) → Gathers s.line buffer c g buffer'
          → Invariant from buffer₀ out₀ input (next + 1) (with_line s g) buffer' frame' out
      line_open n g buffer' h = record {
        well_formed = let w = i.well_formed in record { fits = w.fits; placed = w.placed; short = h.short; whole = w.whole };
        lent = record { line_long = h.kept ∙ i.lent.line_long; frame_long = still.frame_long };
        within = omega arith;
        same = λ more.
            let rest = drop (next + 1) input ++ more in
            same_lines s g out _
            ∙ ap (still_lines s out) (h.same rest)
            ∙ rw (← i.same more, split more);
      }

    -- the block is read, or the run is over
    pub at_end : length input ≤ next → ComposesBlock from buffer₀ out₀ input s buffer out
    at_end h = record {
      well_formed = i.well_formed;
      same = λ more. ap (λ (l : List ℕ). still_composed s buffer out (l ++ more)) (sym (drop_of_length-le input {i = next} h)) ∙ i.same more;
    }

    pub at_refusal : over s ≡ true → ComposesBlock from buffer₀ out₀ input s buffer out
    at_refusal e = record {
      well_formed = i.well_formed;
      same = λ more. over_still s out _ e ∙ sym (over_still s out _ e) ∙ i.same more;
    }
