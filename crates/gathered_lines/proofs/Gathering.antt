-- The present line, character by character; and the lines of an input as they are gathered.
-- Assumes nothing.
use mathlib.Core.Bool.{Bool, true, false, cond}
use mathlib.Core.List.{List, [], ◌∷◌, ◌++◌}
use mathlib.Core.Path.{◌≡◌, ◌∙◌, refl, ap}
use Prim.Native.Nat.{ℕ, ◌+◌, ◌≤◌, ◌<◌, min}
use native.Mathlib.Numerals.{add-one}
use native.Mathlib.Omega.{arith}
use lib.Dec.{ltb, eqb}
use lib.ListN.{length, set, take, length-append, length-take, length-set}
use lib.Seq.{length-take-le, take-suc-set, take_all, take-append-le}
use borrow.Author.Tests.{lt-ltb, le-ltb, ne_eqb, ltb-true, ltb-false}
use Rattle.bits.proofs.Truth.{choice_under}
use Rattle.output.specs.Ascii.{line_feed}
use Rattle.line_meanings.specs.Lines.{is_empty, lines_from, lines_of}
use Rattle.text_words.specs.Words.{line_limit}
use Rattle.gathered_lines.specs.declared.Gathered.{Gathered}
use Rattle.gathered_lines.specs.Gathering.{LineText, line_text, line_texts, texts_from, Gathers}

module _ (g : Gathered) (buffer : List ℕ) (h : g.length ≤ line_limit) (long : length buffer ≡ line_limit) (c : ℕ) (n : c ≡ line_feed → ⊥) where
  so_far : length (take g.length buffer) ≡ g.length
  so_far = length-take-le g.length buffer (omega arith)

  pub kept_out : line_limit ≤ g.length → Gathers g buffer c (record { length = g.length; long = true }) buffer
  unfolding texts_from
  kept_out m = record {
    short = h;
    kept = refl;
    same = λ characters. simp (ne_eqb c line_feed n, so_far, le-ltb g.length line_limit m);
  }

  pub kept : g.length < line_limit → Gathers g buffer c (record { length = g.length + 1; long = g.long }) (set buffer g.length c)
  unfolding texts_from
  kept m = record {
    short = omega arith;
    kept = length-set buffer g.length c;
    same = λ characters.
        let more : take (g.length + 1) (set buffer g.length c) ≡ take g.length buffer ++ (c ∷ []) =
        rw (add-one) (take-suc-set buffer g.length c (omega arith)) in
        rw more (simp (ne_eqb c line_feed n, so_far, lt-ltb g.length line_limit m));
  }

-- The lines of an input are those that are gathered.
empty_taken : (line : List ℕ) → is_empty (take line_limit line) ≡ is_empty line
empty_taken [] = refl
empty_taken (c ∷ cs) = refl

module _ (line : List ℕ) (c : ℕ) where
  abbrev one_more : LineText
  one_more = line_text (line ++ (c ∷ []))

  within : length line < line_limit → record { long = ltb line_limit (length line); text = take line_limit line ++ (c ∷ []) } ≡ one_more
  within h =
      let l : length (line ++ (c ∷ [])) ≡ length line + 1 = length-append line (c ∷ []) in
      rw (
        take_all line_limit line (omega arith),
        take_all line_limit (line ++ (c ∷ [])) (omega (arith, l)),
        l,
        le-ltb line_limit (length line) (omega arith),
        le-ltb line_limit (length line + 1) (omega arith),
      )

  past : line_limit ≤ length line → record { long = true; text = take line_limit line } ≡ one_more
  past h =
      let l : length (line ++ (c ∷ [])) ≡ length line + 1 = length-append line (c ∷ []) in
      rw (take-append-le line_limit line (c ∷ []) h, l, lt-ltb line_limit (length line + 1) (omega arith))

module _ (line : List ℕ) (c : ℕ) (cs : List ℕ) where
  short : length (take line_limit line) ≡ min line_limit (length line)
  short = length-take line_limit line

  gathered_on : (b : Bool) → ltb (length (take line_limit line)) line_limit ≡ b
      → cond b (texts_from (record { long = ltb line_limit (length line); text = take line_limit line ++ (c ∷ []) }) cs)
      (texts_from (record { long = true; text = take line_limit line }) cs)
      ≡ texts_from (line_text (line ++ (c ∷ []))) cs
  gathered_on true e = ap (λ (t : LineText). texts_from t cs) (within line c (omega (arith, short, ltb-true (length (take line_limit line)) line_limit e)))
  gathered_on false e = ap (λ (t : LineText). texts_from t cs) (past line c (omega (arith, short, ltb-false (length (take line_limit line)) line_limit e)))

texts_from_lem : (line characters : List ℕ) → texts_from (line_text line) characters ≡ line_texts (lines_from line characters)
unfolding texts_from lines_from line_texts
texts_from_lem line [] = rw (empty_taken line) (choice_under line_texts (is_empty line) refl refl)
texts_from_lem line (c ∷ cs) =
    choice_under line_texts (eqb c line_feed) (ap (λ (l : List LineText). line_text line ∷ l) (texts_from_lem [] cs))
    (gathered_on line c cs (ltb (length (take line_limit line)) line_limit) refl ∙ texts_from_lem (line ++ (c ∷ [])) cs)

pub texts : (characters : List ℕ) → texts_from (record { long = false; text = [] }) characters ≡ line_texts (lines_of characters)
texts characters = texts_from_lem [] characters
