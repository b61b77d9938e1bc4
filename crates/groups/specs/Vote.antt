-- The eight cycles of a front-end bit: the vote among them (document 02, F-4), and whether they differ (document 01, "What commands do"). Where a sender
-- keeps each bit stable for its eight cycles, as the chip paper asks, the vote is that bit (`promises/specs/Frames`: `SteadyVote`).
-- Assumes nothing.
use Rattle.std.specs.Prelude.{Bool, false, cond, not, ◌||◌, List, [], ◌∷◌, ℕ, zero, suc, ◌+◌, leb, eqb, get_or, take, drop}

-- How many ones are among bits, each 0 or 1.
abbrev pub ones_of : List ℕ → ℕ
ones_of [] = 0
ones_of (bit ∷ bits) = bit + ones_of bits

-- "A front-end bit becomes 1 if five or more ones are among the eight cycles of its group, and 0 if three or fewer are; four ones keep the first
-- cycle's value."
abbrev pub vote_of : List ℕ → ℕ
vote_of group = cond (leb 5 (ones_of group)) 1 (cond (leb (ones_of group) 3) 0 (get_or group 0 0))

-- "A group whose eight differ is unsteady": one of them is not as the first.
abbrev pub differ_from : ℕ → List ℕ → Bool
differ_from first [] = false
differ_from first (bit ∷ bits) = not (eqb bit first) || differ_from first bits

abbrev pub unsteady : List ℕ → Bool
unsteady group = differ_from (get_or group 0 0) group

-- Of so many groups in a row: the bits that they become, and whether one of them is unsteady.
abbrev pub votes_of : ℕ → List ℕ → List ℕ
votes_of zero bits = []
votes_of (suc n) bits = vote_of (take 8 bits) ∷ votes_of n (drop 8 bits)

abbrev pub some_unsteady : ℕ → List ℕ → Bool
some_unsteady zero bits = false
some_unsteady (suc n) bits = unsteady (take 8 bits) || some_unsteady n (drop 8 bits)
