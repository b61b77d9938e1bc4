-- A run over bits, for any state: what a taking call does once it is not refused (document 01, "A taking call").
-- Assumes nothing.
use Rattle.std.specs.Prelude.{true, false, cond, ◌≡◌, List, [], ◌∷◌, ◌++◌, ℕ, suc, ◌-◌, ltb}
use Rattle.records.specs.declared.Cycle.{Cycle}
use Rattle.records.specs.declared.Cycle.TheVariants.{Silent, Recorded}
use Rattle.records.specs.declared.Record.{Record}
use Rattle.records.specs.Records.{head_of, words_of, is_frame_head}
use Rattle.limits.specs.Limits.{list_unit}
use Rattle.calls.specs.declared.Ending.{Ending}
use Rattle.calls.specs.declared.Ending.TheVariants.{Done, Frame, ListFull}

-- A state after a cycle, and what the cycle answers.
pub record Turned (S : Type 0) : Type 0 where
  pub state : S
  pub cycle : Cycle

-- The state after a run, the bits taken, the words written, and how it ended.
pub record Run (S : Type 0) : Type 0 where
  pub state : S
  pub bits : ℕ
  pub words : List ℕ
  pub ending : Ending

-- No record of some words is a frame's: none is "of kind 24, 25 or 26".
abbrev pub NoFrames : List ℕ → Type 0
NoFrames [] = Unit {0}
NoFrames (head ∷ []) = ⊥
NoFrames (head ∷ value ∷ words) = (is_frame_head head ≡ false) × NoFrames words

-- The last record of some words is a frame's, and no earlier one is.
pub record LastIsFrame (words : List ℕ) : Type 0 where
  pub before : List ℕ
  pub head : ℕ
  pub value : ℕ
  pub parts : words ≡ before ++ (head ∷ value ∷ [])
  pub frame : is_frame_head head ≡ true
  pub earlier : NoFrames before

module _ {S : Type 0} where
  abbrev pub ended : S → Ending → Run S
  ended s ending = record { state = s; bits = 0; words = []; ending = ending }

  -- One bit ahead of a run, and one record ahead of it.
  abbrev pub one_bit : Run S → Run S
  one_bit r = record { state = r.state; bits = suc r.bits; words = r.words; ending = r.ending }

  abbrev pub one_record : Record → Run S → Run S
  one_record e r = record { state = r.state; bits = r.bits; words = head_of e ∷ e.value ∷ r.words; ending = r.ending }

  -- "'frame' after a record of kind 24, 25 or 26, where it stops at once"; else the rest of the run follows, given at each state and room.
  abbrev pub after_cycle : (S → ℕ → Run S) → S → Cycle → ℕ → Run S
  after_cycle rest s Silent room = rest s room
  after_cycle rest s (Recorded e) room =
      one_record e (cond (is_frame_head (head_of e)) (ended s Frame) (rest s (room - list_unit)))

  module _ (turn : S → ℕ → Turned S) where
    -- "'list full' when bits remain and fewer than two words are free"; "'done' otherwise, with every bit of its count taken".
    abbrev pub run_of : List ℕ → S → ℕ → Run S
    run_of [] s room = ended s Done
    run_of (bit ∷ bits) s room =
        cond (ltb room list_unit) (ended s ListFull)
        (one_bit (after_cycle (run_of bits) (turn s bit).state (turn s bit).cycle room))

    -- What all of some bits lead to and write, with no list to fill and no stop at a frame.
    abbrev pub state_after : S → List ℕ → S
    state_after s [] = s
    state_after s (bit ∷ bits) = state_after (turn s bit).state bits

    abbrev pub words_after : S → List ℕ → List ℕ
    words_after s [] = []
    words_after s (bit ∷ bits) = words_of (turn s bit).cycle ++ words_after (turn s bit).state bits
