-- How far a stream is accepted, and what is said of it in the end (document 02, F-8).
-- Assumes nothing.
use Rattle.std.specs.Prelude.{◌≡◌, cond, List, [], ◌∷◌, ◌++◌, ◌⊎◌, ℕ, zero, suc, ◌+◌, ◌/◌, ◌%◌, ◌<◌, ◌≤◌, leb, eqb, length}
use Rattle.timing.specs.Table.{zeros_asked}
use Rattle.clean_streams.specs.Commands.{Command, code_of, width_of, command_kind}
use Rattle.patterns.specs.Verdict.{Verdict}
use Rattle.patterns.specs.Verdict.{Unknown, TooClose}
use Rattle.patterns.specs.Patterns.{unknown, cut, pattern_of}
use Rattle.patterns.specs.Verdicts.{verdict_from}
use Rattle.acceptance.specs.declared.Progress.{Progress}
use Rattle.acceptance.specs.declared.Reading.{Reading}
use Rattle.acceptance.specs.declared.Reading.TheVariants.{Begun, Whole, Unknown as Other}

-- The bits of a number that has at most nine, from its highest 1 on.
abbrev bits_onto : ℕ → ℕ → List ℕ → List ℕ
bits_onto zero n more = more
bits_onto (suc most) n more = cond (eqb n 0) more (bits_onto most (n / 2) (n % 2 ∷ more))

abbrev pub pattern_bits : ℕ → List ℕ
pattern_bits n = bits_onto 9 n []

-- No pattern, or the beginning of a command.
abbrev pub UnderWay : ℕ → Type 0
UnderWay n = (n ≡ 0) ⊎ (pattern_of (pattern_bits n) ≡ cut)

-- What a pattern's bits so far are.
abbrev pub Reads : ℕ → Reading → Type 0
Reads n Begun = (n < 256) × (pattern_of (pattern_bits n) ≡ cut)
Reads n (Whole kind) = (c : Command) × (pattern_bits n ≡ code_of c) × (kind ≡ command_kind c)
Reads n Other = pattern_of (pattern_bits n) ≡ unknown

abbrev pub progress : ℕ → ℕ → ℕ → ℕ → ℕ → Progress
progress place zeros last pattern fault = record { place = place; zeros = zeros; last = last; pattern = pattern; fault = fault }

abbrev pub start : Progress
start = progress 0 0 0 0 0

-- A pattern at fault, by its number: 13 or 15.
abbrev pub fault_at : ℕ → ℕ → Verdict
fault_at fault place = cond (eqb fault 13) (Unknown place) (TooClose place)

-- After a whole command: in time, or too close to the one before.
abbrev pub completed_of : Progress → Command → Progress
completed_of p c =
    cond (leb (zeros_asked p.last (command_kind c)) p.zeros)
    (progress (p.place + width_of c) 0 (command_kind c) 0 0)
    (progress p.place p.zeros p.last 0 15)

-- The same, and a command's width, by the kind of its record.
abbrev pub CompletedBy : Progress → ℕ → Progress → Type 0
CompletedBy p kind r = (c : Command) → kind ≡ command_kind c → r ≡ completed_of p c

abbrev pub WidthBy : ℕ → ℕ → Type 0
WidthBy kind width = (c : Command) → kind ≡ command_kind c → width ≡ width_of c

-- What is said in the end, given the bits that are still to come.
unfoldable pub verdict_on : Progress → List ℕ → Verdict
verdict_on p bits =
    cond (eqb p.fault 0)
    (verdict_from p.last p.zeros p.place 0 (pattern_bits p.pattern ++ bits))
    (fault_at p.fault p.place)

-- How many bits it stands for.
abbrev pub reached : Progress → ℕ
reached p = p.place + length (pattern_bits p.pattern)

-- What each progress has.
pub record Fits (p : Progress) : Type 0 where
  pub pattern : UnderWay p.pattern
  pub narrow : p.pattern < 256
  pub zeros : p.zeros ≤ p.place

-- One progress after another, with these bits between: whatever more bits come, the same is said in the end.
pub record After (p : Progress) (bits : List ℕ) (r : Progress) : Type 0 where
  pub fits : Fits r
  pub near : reached r ≤ reached p + length bits
  pub same : (more : List ℕ) → verdict_on r more ≡ verdict_on p (bits ++ more)
