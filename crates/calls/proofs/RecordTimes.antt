-- The records of some bits have times ahead of the cycle behind them.
-- Assumes nothing.
use mathlib.Core.List.{List, [], ◌∷◌, ◌++◌}
use Prim.Native.Nat.{ℕ, ◌+◌, ◌/◌, ◌<◌, ◌≤◌}
use native.Mathlib.Omega.{arith}
use lib.ListN.{length}
use Rattle.records.specs.declared.Cycle.{Cycle}
use Rattle.records.specs.declared.Cycle.TheVariants.{Silent, Recorded}
use Rattle.records.specs.Records.{words_of}
use Rattle.controller.proofs.RecordStamps.{Stamped}
use Rattle.timing.specs.declared.Earlier.{Earlier}
use Rattle.timing.specs.TooClose.{flagged_cycle}
use Rattle.timing.proofs.Flagged.{flag_low}
use Rattle.calls.specs.Run.{words_after}
use Rattle.calls.specs.Turn.{System, cnt_at, effect_at, transition_of, turn_of}
use Rattle.calls.proofs.SoundnessKept.{stamp}

-- Each record's time is below n.
abbrev pub TimesBelow : ℕ → List ℕ → Type 0
TimesBelow n [] = Unit {0}
TimesBelow n (head ∷ []) = ⊥
TimesBelow n (head ∷ value ∷ words) = (head / 65536 < n) × TimesBelow n words

below_append : (n : ℕ) (ws vs : List ℕ) → TimesBelow n ws → TimesBelow n vs → TimesBelow n (ws ++ vs)
below_append n [] vs f g = g
below_append n (head ∷ []) vs f g = absurd f
below_append n (head ∷ value ∷ ws) vs f g = (f.0, below_append n ws vs f.1 g)

cycle_below : (e : Earlier) (cnt time n : ℕ) → time < n → (c : Cycle) → Stamped time c → TimesBelow n (words_of (flagged_cycle e cnt c))
cycle_below e cnt time n h Silent s = tt
cycle_below e cnt time n h (Recorded r) s = let low = flag_low e cnt time r in (omega (arith, s), tt)

pub times_below : (bits : List ℕ) (s : System) (n : ℕ) → s.machine.next + length bits ≤ n → TimesBelow n (words_after turn_of s bits)
unfolding turn_of
times_below [] s n h = tt
times_below (bit ∷ bits) s n h =
    let m = s.machine in
    let q = (transition_of s bit).event.request in
    below_append n (words_of (turn_of s bit).cycle) (words_after turn_of (turn_of s bit).state bits)
    (cycle_below m.earlier (cnt_at m) m.next n (omega arith) (effect_at m q m.next).acted.cycle (stamp s bit))
    (times_below bits (turn_of s bit).state n (omega arith))
