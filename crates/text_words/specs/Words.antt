-- The words of a line (ours: document 02 gives orders as a list, and names no text of them).
-- Assumes nothing.
use Rattle.std.specs.Prelude.{Bool, true, false, cond, ◌&&◌, ◌||◌, List, [], ◌∷◌, ◌++◌, ℕ, eqb}
use Prim.Native.Char.{code}
use Rattle.line_meanings.specs.Lines.{is_empty}

-- The most characters of a line.
abbrev pub line_limit : ℕ
line_limit = 32768

-- The characters of a text ahead of the first that is as told; all of them where there is none.
unfoldable pub up_to : ℕ → List ℕ → List ℕ
up_to character [] = []
up_to character (c ∷ cs) = cond (eqb c character) [] (c ∷ up_to character cs)

-- `#` and all behind it are a comment.
abbrev pub uncommented : List ℕ → List ℕ
uncommented line = up_to (code "#") line

-- Blanks are space, tab and carriage return.
abbrev pub is_blank : ℕ → Bool
is_blank c = eqb c (code " ") || (eqb c (code "\t") || eqb c (code "\r"))

-- Words are the runs of other characters: those of a text, behind the characters of a word that has begun. One without characters is none.
abbrev pub ended_word : List ℕ → List (List ℕ) → List (List ℕ)
ended_word word words = cond (is_empty word) words (word ∷ words)

unfoldable pub words_from : List ℕ → List ℕ → List (List ℕ)
words_from word [] = ended_word word []
words_from word (c ∷ cs) = cond (is_blank c) (ended_word word (words_from [] cs)) (words_from (word ++ (c ∷ [])) cs)

abbrev pub words_in : List ℕ → List (List ℕ)
words_in text = words_from [] text

-- A text from its first word on, without the blanks ahead of it.
unfoldable pub from_word : List ℕ → List ℕ
from_word [] = []
from_word (c ∷ cs) = cond (is_blank c) (from_word cs) (c ∷ cs)

-- Of a whole line.
abbrev pub words_of : List ℕ → List (List ℕ)
words_of line = words_in (uncommented line)

-- Whether two words are the same.
unfoldable pub same_word : List ℕ → List ℕ → Bool
same_word [] [] = true
same_word [] (b ∷ y) = false
same_word (a ∷ x) [] = false
same_word (a ∷ x) (b ∷ y) = eqb a b && same_word x y
