-- Patterns: what the bits of a stream from a 1 on are (document 02, F-8).
-- Assumes nothing.
use Rattle.std.specs.Prelude.{Bool, true, false, cond, ◌&&◌, List, [], ◌∷◌, ℕ, eqb}
use Rattle.clean_streams.specs.Commands.{Command, lv1, fasts, code_of}

-- The five commands.
abbrev pub commands : List Command
commands = lv1 ∷ fasts

-- A command's code, and bits up to the stream's end: whether they agree as far as both go, and whether the bits have the whole code.
abbrev pub agrees : List ℕ → List ℕ → Bool
agrees [] bits = true
agrees (c ∷ code) [] = true
agrees (c ∷ code) (bit ∷ bits) = eqb c bit && agrees code bits

abbrev pub holds : List ℕ → List ℕ → Bool
holds [] bits = true
holds (c ∷ code) [] = false
holds (c ∷ code) (bit ∷ bits) = eqb c bit && holds code bits

-- "the bits present begin none of the five commands"; "the stream ends inside one"; or a whole command.
pub data Pattern : Type 0 where
  unknown : Pattern
  cut : Pattern
  whole : Command → Pattern

-- By the first command with which the bits agree: no command begins another, so that no other could be whole.
abbrev pub pattern_among : List Command → List ℕ → Pattern
pattern_among [] bits = unknown
pattern_among (c ∷ cs) bits = cond (agrees (code_of c) bits) (cond (holds (code_of c) bits) (whole c) cut) (pattern_among cs bits)

abbrev pub pattern_of : List ℕ → Pattern
pattern_of bits = pattern_among commands bits
