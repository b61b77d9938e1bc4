-- What acceptance and each refusal say of a stream, by the items of the damage statement (document 02, F-8).
-- Assumes nothing.
use Rattle.std.specs.Prelude.{◌≡◌, List, [], ◌∷◌, ℕ, ◌<◌, T, get_or, take, drop}
use Rattle.timing.specs.Table.{zeros_asked}
use Rattle.clean_streams.specs.Commands.{Command, command_kind}
use Rattle.clean_streams.specs.CleanStreams.{Item, stream_bits, timed}
use Rattle.patterns.specs.Verdict.{Verdict}
use Rattle.patterns.specs.Verdict.{Accepted, WrongRange, Unknown, Cut, TooClose}
use Rattle.patterns.specs.Patterns.{Pattern, unknown, cut, whole, pattern_of}

-- "streams of zeros and whole, exact LV1, BCR, ECR, CAL and SYNC commands that keep the timing table"
pub record Clean (bits : List ℕ) : Type 0 where
  pub items : List Item
  pub trailing : ℕ
  pub same : bits ≡ stream_bits items trailing
  pub timing : T (timed items)

-- The kind of the last command, 0 for none.
abbrev pub last_from : ℕ → List Item → ℕ
last_from last [] = last
last_from last (i ∷ is) = last_from (command_kind i.command) is

abbrev pub last_kind : List Item → ℕ
last_kind items = last_from 0 items

-- "the first pattern at fault": the bits ahead of it are a clean stream, its first bit is no zero, and the pattern is as its number says.
pub record AtFault (bits : List ℕ) (place : ℕ) (Fault : List Item → ℕ → Pattern → Type 0) : Type 0 where
  pub ahead : Clean (take place bits)
  pub begins : get_or bits place 0 ≡ 0 → ⊥
  pub fault : Fault ahead.items ahead.trailing (pattern_of (drop place bits))

-- "15 when too few zeros lie ahead": a whole command, and fewer zeros than the timing table asks after the one before.
pub record TooFew (items : List Item) (trailing : ℕ) (p : Pattern) : Type 0 where
  pub command : Command
  pub complete : p ≡ whole command
  pub few : trailing < zeros_asked (last_kind items) (command_kind command)

-- What each verdict says. A stream is a list of bits and has no range: number 5 is said of none.
abbrev pub Told : List ℕ → Verdict → Type 0
Told bits Accepted = Clean bits
Told bits WrongRange = ⊥
Told bits (Unknown place) = AtFault bits place (λ items trailing p. p ≡ unknown)
Told bits (Cut place) = AtFault bits place (λ items trailing p. p ≡ cut)
Told bits (TooClose place) = AtFault bits place TooFew
