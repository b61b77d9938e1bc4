-- What a record with the flag of F-5 keeps of itself.
-- Assumes nothing.
use mathlib.Core.Bool.{true, false}
use mathlib.Core.Logic.{⊎_elim}
use mathlib.Core.Path.{◌≡◌}
use Prim.Native.Nat.{ℕ, ◌+◌, ◌<◌, ◌≤◌}
use native.Mathlib.Omega.{arith}
use lib.Dec.{ltb, eqb}
use borrow.Author.Tests.{ltb-true, lt-ltb, ne_eqb}
use Rattle.limits.specs.Limits.{clock_limit}
use Rattle.bits.proofs.Truth.{cond_most, either, or_left, or_right}
use Rattle.records.specs.declared.Cycle.{Cycle}
use Rattle.records.specs.declared.Cycle.TheVariants.{Silent, Recorded}
use Rattle.records.specs.declared.Record.{Record}
use Rattle.records.specs.Records.{words_of}
use Rattle.controller.specs.Widths.{WordsFit}
use Rattle.controller.proofs.RecordStamps.{Stamp, Stamped}
use Rattle.controller.proofs.RecordsFit.{CycleFits}
use Rattle.timing.specs.declared.Earlier.{Earlier}
use Rattle.timing.specs.TooClose.{is_none, earlier_of, cycles_back, too_close, flagged, flag_too_close, flagged_cycle, earlier_below, earlier_after}

module _ (e : Earlier) (cnt time : ℕ) where
  pub flag_low : (r : Record) → flag_too_close (too_close e r.time r.kind cnt) ≤ 0x20
  flag_low r = cond_most (too_close e r.time r.kind cnt) (omega arith) (omega arith)

  -- Its time still stands above its kind and flags, and its value is its own.
  pub flagged_words_fit : time < clock_limit → (c : Cycle) → Stamped time c → CycleFits c → WordsFit (words_of (flagged_cycle e cnt c))
  flagged_words_fit below Silent s f = tt
  flagged_words_fit below (Recorded r) s f =
      let low = flag_low r in
      (omega (arith, s), f, tt)

-- An earlier record stays below a later cycle, and the present cycle's record is below the next.
pub below_later : (e : Earlier) (n k : ℕ) → n ≤ k → earlier_below e n ≡ true → earlier_below e k ≡ true
below_later e n k h b =
    ⊎_elim (or_left (is_none e) (ltb e.time k))
    (λ t. let l = ltb-true e.time n t in or_right (is_none e) (ltb e.time k) (lt-ltb e.time k (omega arith)))
    (either (is_none e) (ltb e.time n) b)

pub below_next : (e : Earlier) (cnt time : ℕ) (c : Cycle) → Stamped time c → earlier_below e time ≡ true
    → earlier_below (earlier_after e (flagged_cycle e cnt c)) (time + 1) ≡ true
below_next e cnt time Silent s b = below_later e time (time + 1) (omega arith) b
below_next e cnt time (Recorded r) s b =
    or_right (eqb r.kind 0) (ltb r.time (time + 1)) (lt-ltb r.time (time + 1) (omega (arith, s)))

-- Its kind stays a byte.
pub byte_kind_next : (e : Earlier) (cnt time : ℕ) (c : Cycle) → Stamped time c → e.kind < 256 → (earlier_after e (flagged_cycle e cnt c)).kind < 256
byte_kind_next e cnt time Silent s b = b
byte_kind_next e cnt time (Recorded r) s b = s.byte_kind

-- A command that is no Slow has a length of its own, whatever CNT holds.
short_back : (kind cnt : ℕ) → kind < 0x20 → cycles_back kind cnt ≡ cycles_back kind 0
short_back kind cnt h = simp (lt-ltb kind 0x20 h)

pub short_flagged : (e : Earlier) (cnt : ℕ) (r : Record) → r.kind < 0x20 → flagged e cnt r ≡ flagged e 0 r
unfolding too_close
short_flagged e cnt r h = rw (short_back r.kind cnt h)

-- After a record there is one before: no record has kind 0.
pub remembered : (time : ℕ) (r : Record) → Stamp time r → is_none (earlier_of r) ≡ false
remembered time r s = ne_eqb r.kind 0 (λ none. let some = s.some_kind in absurd (omega arith))
