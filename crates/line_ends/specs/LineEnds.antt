-- The end of a line of a text of orders, and the buffers lent for it.
-- Assumes nothing.
use Rattle.std.specs.Prelude.{◌≡◌, ℕ, List, ◌∷◌, length}
use Rattle.text_words.specs.Words.{line_limit}
use Rattle.text_frames.specs.Frames.{frame_limit}
use Rattle.gathered_lines.specs.Gathering.{LineText, empty_line, text_so_far}
use Rattle.compositions.specs.declared.Composition.{Composition}
use Rattle.compositions.specs.Compositions.{with_lines, still_lines, WellFormed}

-- The buffers lent for a line and for a frame.
pub record Lent (line frame : List ℕ) : Type 0 where
  pub line_long : length line ≡ line_limit
  pub frame_long : length frame ≡ frame_limit

-- The end of a line: what is composed is what the line and those behind it make, and the next one begins.
pub record EndsLine (s : Composition) (buffer out : List ℕ) (r : Composition) (now : List ℕ) : Type 0 where
  pub well_formed : WellFormed r now
  pub fresh : r.line ≡ empty_line
  pub same : (texts : List LineText) → still_lines r now texts ≡ with_lines s out (text_so_far s.line buffer ∷ texts)
