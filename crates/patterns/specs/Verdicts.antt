-- What is said of a stream of trigger and fast commands, pattern by pattern (document 02, F-8).
-- Assumes nothing.
use Rattle.std.specs.Prelude.{cond, List, [], ◌∷◌, ℕ, zero, suc, ◌-◌, leb, length}
use Rattle.bits.specs.Bits.{bits_of}
use Rattle.bits.specs.Range.{range_fits}
use Rattle.timing.specs.Table.{zeros_asked}
use Rattle.clean_streams.specs.Commands.{Command, command_kind, width_of}
use Rattle.patterns.specs.Verdict.{Verdict}
use Rattle.patterns.specs.Verdict.{Accepted, WrongRange, Unknown, Cut, TooClose}
use Rattle.patterns.specs.Patterns.{Pattern, unknown, cut, whole, pattern_of}

-- "Errors: number 5 first ..; then, pattern by pattern, 13 .., 14 .., 15 ..".
abbrev pub verdict_number : Verdict → ℕ
verdict_number Accepted = 0
verdict_number WrongRange = 5
verdict_number (Unknown place) = 13
verdict_number (Cut place) = 14
verdict_number (TooClose place) = 15

-- "A refusal names the first bit of the first pattern at fault"; number 5 "names bit 0".
abbrev pub verdict_place : Verdict → ℕ
verdict_place Accepted = 0
verdict_place WrongRange = 0
verdict_place (Unknown place) = place
verdict_place (Cut place) = place
verdict_place (TooClose place) = place

-- A pattern at a place, by the kind of the command before it, 0 for none, which asks nothing, and the zeros since: "15 when too few zeros lie ahead". After
-- a whole command in time the rest is judged.
abbrev pub judged : ℕ → ℕ → ℕ → Pattern → (Command → Verdict) → Verdict
judged last since place unknown rest = Unknown place
judged last since place cut rest = Cut place
judged last since place (whole c) rest = cond (leb (zeros_asked last (command_kind c)) since) (rest c) (TooClose place)

-- "a pattern begins at the first 1 after the one before". The first bits, so many as `inside` says, belong to the pattern before.
unfoldable pub verdict_from : ℕ → ℕ → ℕ → ℕ → List ℕ → Verdict
verdict_from last since place inside [] = Accepted
verdict_from last since place (suc inside) (bit ∷ bits) = verdict_from last since (suc place) inside bits
verdict_from last since place zero (zero ∷ bits) = verdict_from last (suc since) (suc place) zero bits
verdict_from last since place zero (suc n ∷ bits) =
    judged last since place (pattern_of (suc n ∷ bits)) (λ c. verdict_from (command_kind c) 0 (suc place) (width_of c - 1) bits)

-- A stream from its first bit on.
abbrev pub verdict_of : List ℕ → Verdict
verdict_of bits = verdict_from 0 0 0 0 bits

-- A range of an input.
unfoldable pub accept_of : List ℕ → ℕ → ℕ → Verdict
accept_of input first count = cond (range_fits (length input) first count) (verdict_of (bits_of input first count)) WrongRange
