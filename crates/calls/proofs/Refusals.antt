-- A taking call by its checks, in their order: each refusal exactly where its row says, else the run.
-- Assumes nothing.
use mathlib.Core.Path.{◌≡◌, ◌∙◌, ap}
use mathlib.Core.Bool.{Bool, true, false, cond, not}
use Prim.Native.Nat.{ℕ, ◌+◌, ◌*◌, ◌-◌, ◌<◌, ◌≤◌}
use native.Mathlib.Omega.{arith}
use lib.Dec.{eqb, leb}
use lib.ListN.{length}
use borrow.Author.Tests.{le-leb, lt-leb, leb-true, eqb-true}
use Rattle.bits.specs.Range.{range_fits}
use Rattle.bits.proofs.Truth.{both}
use Rattle.decoder.specs.declared.Decoder.{Decoder}
use Rattle.limits.specs.Limits.{clock_limit, store_length, tray_length, input_limit}
use Rattle.decoder.specs.Sound.{sound_of}
use Rattle.decoder.proofs.Soundness.{Sound, sound_parts}
use Rattle.calls.specs.declared.Ending.{Ending}
use Rattle.calls.specs.declared.Ending.TheVariants.{Unsound, WrongBuffers, WrongRange, ClockOver}
use Rattle.calls.specs.Take.{Call, CallResult, refused, buffers_fit, clock_fits, taken_of, take_within, take_of}

-- The tests of a call.
abbrev pub buffers : Call → Bool
buffers c = buffers_fit (length c.store) (length c.tray) (length c.list) c.free

abbrev pub range : Call → Bool
range c = range_fits (length c.input) c.first c.count

-- a choice by a test that is known
module _ (d : Decoder) (c : Call) where
  rejected_where : (b : Bool) (e : Ending) (l : CallResult) → b ≡ false → cond (not b) (refused d c e) l ≡ refused d c e
  rejected_where b e l h = ap (λ b. cond (not b) (refused d c e) l) h

  passed_where : (b : Bool) (e : Ending) (l : CallResult) → b ≡ true → cond (not b) (refused d c e) l ≡ l
  passed_where b e l h = ap (λ b. cond (not b) (refused d c e) l) h

  pub unsound : sound_of d ≡ false → take_of d c ≡ refused d c Unsound
  unfolding take_of
  unsound s = rejected_where (sound_of d) Unsound _ s

  module _ (s : sound_of d ≡ true) where
    pub wrong_buffers : buffers c ≡ false → take_of d c ≡ refused d c WrongBuffers
    unfolding take_of
    wrong_buffers b = passed_where (sound_of d) Unsound _ s ∙ rejected_where (buffers c) WrongBuffers _ b

    module _ (b : buffers c ≡ true) where
      pub wrong_range : range c ≡ false → take_of d c ≡ refused d c WrongRange
      unfolding take_of
      wrong_range r = passed_where (sound_of d) Unsound _ s ∙ passed_where (buffers c) WrongBuffers _ b ∙ rejected_where (range c) WrongRange _ r

      module _ (r : range c ≡ true) where
        fit_so_far : take_of d c ≡ cond (not (clock_fits d.next c.count)) (refused d c ClockOver) (taken_of d c)
        unfolding take_of
        fit_so_far = passed_where (sound_of d) Unsound _ s ∙ passed_where (buffers c) WrongBuffers _ b ∙ passed_where (range c) WrongRange _ r

        pub clock_over : clock_fits d.next c.count ≡ false → take_of d c ≡ refused d c ClockOver
        clock_over k = fit_so_far ∙ rejected_where (clock_fits d.next c.count) ClockOver (taken_of d c) k

        pub taken : clock_fits d.next c.count ≡ true → take_of d c ≡ taken_of d c
        taken k = fit_so_far ∙ passed_where (clock_fits d.next c.count) ClockOver (taken_of d c) k

-- a limit of the input that is not passed does not matter
pub limits_agree : (d : Decoder) (c : Call) (a b : ℕ) → length c.input ≤ a → length c.input ≤ b → take_within a d c ≡ take_within b d c
limits_agree d c a b h g = rw (le-leb (length c.input) a h, le-leb (length c.input) b g)

-- the clock's test without a sum that could wrap
pub clock_short : (next count : ℕ) → next ≤ clock_limit → clock_limit - next < count → clock_fits next count ≡ false
clock_short next count h g = lt-leb (next + count) clock_limit (omega arith)

pub clock_long : (next count : ℕ) → next ≤ clock_limit → count ≤ clock_limit - next → clock_fits next count ≡ true
clock_long next count h g = le-leb (next + count) clock_limit (omega arith)

-- what the checks that a call passed say of its numbers
pub sound_is : (d : Decoder) → sound_of d ≡ true → Sound d
sound_is d s = sound_parts d (rw s tt)

-- so that the run may go
pub record May (next store input first count list free : ℕ) : Type 0 where
  pub clock_fits_lem : next + count ≤ clock_limit
  pub store_long : store ≡ store_length
  pub input_short : input ≤ input_limit
  pub in_range : first + count ≤ 8 * input
  pub list_long : free ≤ list

pub run_may : (next store tray list free input first count : ℕ) → next ≤ clock_limit → buffers_fit store tray list free ≡ true
    → range_fits input first count ≡ true → count ≤ clock_limit - next → May next store input first count list free
run_may next store tray list free input first count n b r k =
    let p = both (eqb store store_length) _ b in
    let q = both (eqb tray tray_length) (leb free list) p.1 in
    let s = both (leb input input_limit) (leb (first + count) (8 * input)) r in
    record {
      clock_fits_lem = omega arith;
      store_long = eqb-true store store_length p.0;
      input_short = leb-true input input_limit s.0;
      in_range = leb-true (first + count) (8 * input) s.1;
      list_long = leb-true free list q.1;
    }
