-- A reply as it was sent, and as it may arrive: the header, and behind it each bit for eight cycles, of which some are inverted (document 02, F-12).
-- Assumes nothing.
use Rattle.std.specs.Prelude.{◌≡◌, true, false, cond, List, [], ◌∷◌, ℕ, ◌+◌, ◌*◌, ◌<◌, ◌≤◌, eqb, length, get_or, take, drop}
use Rattle.replies.specs.Replies.{header, begins, Behind, nowhere, behind}

-- No header stands at the first places of a range, so many of them.
abbrev pub NoneBefore : ℕ → List ℕ → Type 0
NoneBefore places range = (i : ℕ) → i < places → begins header (drop i range) ≡ false

-- Where the header is found: at no place of the range, or at the first at which it stands, and the cycles behind it.
abbrev pub FoundAt : List ℕ → Behind → Type 0
FoundAt range nowhere = (i : ℕ) → begins header (drop i range) ≡ false
FoundAt range (behind cycles) =
    (place : ℕ) × (begins header (drop place range) ≡ true) × NoneBefore place range × (cycles ≡ drop (place + 5) range)

-- How many cycles are not as the bit that was sent.
abbrev pub inverted_in : ℕ → List ℕ → ℕ
inverted_in bit [] = 0
inverted_in bit (cycle ∷ cycles) = cond (eqb cycle bit) 0 1 + inverted_in bit cycles

-- A range in which bits were sent: the header at a place and not earlier, and behind it the eight cycles of each bit, at most three of them inverted. What
-- else the range holds may be anything.
pub record Sent (bits range : List ℕ) : Type 0 where
  pub place : ℕ
  pub starts : begins header (drop place range) ≡ true
  pub earliest : NoneBefore place range
  pub inside : place + 5 + 8 * length bits ≤ length range
  pub few : (i : ℕ) → i < length bits → inverted_in (get_or bits i 0) (take 8 (drop (place + 5 + 8 * i) range)) ≤ 3
