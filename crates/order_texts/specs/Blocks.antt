-- Blocks of an input in a row, each by the contract of `order_texts::compose_block`, the input's end, and the outcome.
-- Assumes nothing.
use Rattle.std.specs.Prelude.{◌≡◌, List, [], ◌∷◌, ◌++◌, ℕ, Result, length}
use Rattle.compositions.specs.declared.Composition.{Composition}
use Rattle.order_refusals.specs.declared.Refusal.{Refusal}
use Rattle.compositions.specs.Compositions.{output_limit, outcome_of, start, Finishes}
use Rattle.order_texts.specs.Composed.{composed_of}
use Rattle.order_texts.specs.Running.{ComposesBlock, EndsInput}

-- A run with its two buffers: the line's and the output.
pub record Run : Type 0 where
  pub state : Composition
  pub buffer : List ℕ
  pub out : List ℕ

abbrev pub BlocksComposed : Run → List (List ℕ) → Run → Type 0
BlocksComposed s [] r = s ≡ r
BlocksComposed s (block ∷ blocks) r =
    (t : Run) × ComposesBlock s.state s.buffer s.out block t.state t.buffer t.out × BlocksComposed t blocks r

abbrev pub joined : List (List ℕ) → List ℕ
joined [] = []
joined (block ∷ blocks) = block ++ joined blocks

-- Wherever the reads end: blocks from the start on, then the input's end, then the outcome, come to what the program makes of all their characters.
abbrev pub AsRead : Type 0
AsRead = (blocks : List (List ℕ)) (s r e : Run) (o : Result ℕ Refusal) (out : List ℕ) → s.state ≡ start → length s.out ≡ output_limit
    → BlocksComposed s blocks r
    → EndsInput r.state r.buffer r.out e.state e.out → Finishes e.state e.out o out
    → outcome_of o out ≡ composed_of (joined blocks)
