-- The lines of a text of orders as they are gathered, character by character (ours).
-- Assumes nothing.
use Rattle.std.specs.Prelude.{◌≡◌, Bool, true, false, cond, List, [], ◌∷◌, ◌++◌, ℕ, ◌≤◌, ltb, eqb, length, take}
use Rattle.output.specs.Ascii.{line_feed}
use Rattle.line_meanings.specs.Lines.{is_empty}
use Rattle.text_words.specs.Words.{line_limit}
use Rattle.gathered_lines.specs.declared.Gathered.{Gathered}

-- A line as it is gathered: its first 32,768 characters, and whether it has more.
pub record LineText : Type 0 where
  pub long : Bool
  pub text : List ℕ

abbrev pub line_text : List ℕ → LineText
line_text line = record { long = ltb line_limit (length line); text = take line_limit line }

unfoldable pub line_texts : List (List ℕ) → List LineText
line_texts [] = []
line_texts (line ∷ lines) = line_text line ∷ line_texts lines

-- No characters yet.
abbrev pub empty_line : Gathered
empty_line = record { length = 0; long = false }

-- The present line so far, in the buffer that it is gathered in.
abbrev pub text_so_far : Gathered → List ℕ → LineText
text_so_far g buffer = record { long = g.long; text = take g.length buffer }

-- The lines of characters, gathered one by one: past 32,768 of them only that there are more is kept.
unfoldable pub texts_from : LineText → List ℕ → List LineText
texts_from t [] = cond (is_empty t.text) [] (t ∷ [])
texts_from t (c ∷ cs) =
    cond (eqb c line_feed) (t ∷ texts_from (record { long = false; text = [] }) cs)
    (cond (ltb (length t.text) line_limit) (texts_from (record { long = t.long; text = t.text ++ (c ∷ []) }) cs)
    (texts_from (record { long = true; text = t.text }) cs))

-- A character of the present line.
pub record Gathers (g : Gathered) (buffer : List ℕ) (c : ℕ) (r : Gathered) (now : List ℕ) : Type 0 where
  pub short : r.length ≤ line_limit
  pub kept : length now ≡ length buffer
  pub same : (characters : List ℕ) → texts_from (text_so_far r now) characters ≡ texts_from (text_so_far g buffer) (c ∷ characters)
