-- A run of `compose` under way: what is still composed of the characters to come, and what each step keeps.
-- Assumes nothing.
use Rattle.std.specs.Prelude.{◌≡◌, List, [], ◌++◌, ℕ}
use Rattle.gathered_lines.specs.Gathering.{text_so_far, texts_from}
use Rattle.compositions.specs.declared.Composition.{Composition}
use Rattle.compositions.specs.Compositions.{Composed, still_lines, WellFormed, composition_of}

-- What is composed in the end, given the characters that are still to come.
abbrev pub still_composed : Composition → List ℕ → List ℕ → List ℕ → Composed
still_composed s buffer out characters = still_lines s out (texts_from (text_so_far s.line buffer) characters)

-- A block of characters, whatever more follow.
pub record ComposesBlock (s : Composition) (buffer out characters : List ℕ) (r : Composition) (buffer_now now : List ℕ) : Type 0 where
  pub well_formed : WellFormed r now
  pub same : (more : List ℕ) → still_composed r buffer_now now more ≡ still_composed s buffer out (characters ++ more)

-- The input's end, which ends a line that has begun.
pub record EndsInput (s : Composition) (buffer out : List ℕ) (r : Composition) (now : List ℕ) : Type 0 where
  pub well_formed : WellFormed r now
  pub same : composition_of r now ≡ still_composed s buffer out []
