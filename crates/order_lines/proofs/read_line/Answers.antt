-- `read_line` meets its contract: the line without its comment.
-- Assumes nothing.
use mathlib.Core.Path.{◌≡◌, ◌∙◌, sym, ap}
use mathlib.Core.List.{List}
use Prim.Native.Char.{code}
use Prim.Native.Nat.{ℕ, ◌≤◌}
use native.Mathlib.Omega.{arith}
use lib.ListN.{length, take}
use lib.Seq.{length-take-le}
use borrow.Author.Tests.{eqb-true}
use Rattle.std.proofs.Common.{None, Ok}
use Rattle.std.proofs.lemmas.List.{nil_from_length}
use Rattle.text_words.specs.Words.{uncommented, words_from, words_in}
use Rattle.text_words.proofs.Words.{up_to_within, up_to_take}
use Rattle.order_lines.specs.Lines.{words_meaning}
use Rattle.order_lines.proofs.Lines.{read_nothing, no_words}
use Rattle.order_lines.proofs.read_line.Goals as goal

pub slice_bounds-from_first_word-end : goal.slice_bounds-from_first_word-end
slice_bounds-from_first_word-end c =
    let within : c.place_of-end.result ≤ length c.args.line.now = omega (arith, c.place_of-end.ensures, up_to_within (code "#") c.args.line.now) in
    sym (length-take-le _ _ within)

-- The words that are left are the line's.
words_left : (line : List ℕ) (n : ℕ) → n ≡ length (uncommented line) → (text : List ℕ) → words_in text ≡ words_in (take n line)
    → words_in text ≡ words_in (uncommented line)
words_left line n e text w = w ∙ ap words_in (ap (λ (k : ℕ). take k line) e ∙ up_to_take (code "#") line)

pub read_text-requires : goal.read_text-requires
read_text-requires c =
    let line = c.args.line.now in
    let within : c.place_of-end.result ≤ length line = omega (arith, c.place_of-end.ensures, up_to_within (code "#") line) in
    let short = length-take-le c.place_of-end.result line within in
    (omega (arith, c.from_first_word-text.ensures.short, short, within, c.requires.0), c.requires.1)

pub returns-then-is_empty : goal.returns-then-is_empty
unfolding words_from
returns-then-is_empty c =
    let text = c.from_first_word-text.result.now in
    let empty = nil_from_length text (eqb-true (length text) 0 (sym c.is_empty.ensures ∙ c.if-is_empty.true)) in
    let words = words_left c.args.line.now _ c.place_of-end.ensures text c.from_first_word-text.ensures.words in
    read_nothing (Ok None) tt (no_words _ (ap length (sym words ∙ ap words_in empty))) c.requires.1

pub returns : goal.returns
returns c =
    let line = c.args.line.now in
    let r = c.read_text.ensures in
    record {
      same = r.same ∙ ap words_meaning (words_left line _ c.place_of-end.ensures _ c.from_first_word-text.ensures.words);
      within = r.within;
      long = r.long;
    }
