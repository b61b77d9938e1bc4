-- The test of soundness, taken apart and put together.
-- Assumes nothing.
use mathlib.Core.Bool.{true, false}
use mathlib.Core.Path.{◌≡◌, subst⁻¹}
use Prim.Native.Nat.{◌≤◌}
use lib.Dec.{T}
use borrow.Author.Tests.{le-leb, leb-true, not-true}
use Rattle.bits.proofs.Truth.{holds_true, both, not_both, not_other}
use Rattle.plans.specs.Plan.{plan_fits}
use Rattle.registers.specs.Registers.{cnt_of}
use Rattle.registers.specs.Sound.{pointers_fit, missing_zero}
use Rattle.timing.specs.TooClose.{earlier_below}
use Rattle.fit_recognisers.specs.Fit.{fit_of}
use Rattle.decoder.specs.declared.Decoder.{Decoder}
use Rattle.limits.specs.Limits.{clock_limit}
use Rattle.decoder.specs.Sound.{inside_slow, sound_of}

-- What the test says, part by part.
pub record Sound (d : Decoder) : Type 0 where
  pub plan : plan_fits d.plan ≡ true
  pub next : d.next ≤ clock_limit
  pub base : d.model.counters.base ≤ d.next
  pub earlier : earlier_below d.earlier d.next ≡ true
  pub writes : pointers_fit d.model.pointers.writes ≡ true
  pub reads : pointers_fit d.model.pointers.reads ≡ true
  pub missing : missing_zero d.plan d.model ≡ true
  pub stopped : T (inside_slow d.recogniser.phase) → d.model.running ≡ false
  pub fits : T (fit_of d.recogniser (cnt_of d.plan d.model))

module _ (d : Decoder) where
  pub sound : Sound d → T (sound_of d)
  unfolding sound_of
  sound s =
      rw (
        s.plan,
        le-leb d.next clock_limit s.next,
        le-leb d.model.counters.base d.next s.base,
        s.earlier,
        s.writes,
        s.reads,
        s.missing,
        not_both (inside_slow d.recogniser.phase) d.model.running s.stopped,
      ) s.fits

  pub sound_parts : T (sound_of d) → Sound d
  unfolding sound_of
  sound_parts t =
      let p = both _ _ (holds_true (sound_of d) t) in
      let q = both _ _ p.1 in
      let b = both _ _ q.1 in
      let e = both _ _ b.1 in
      let w = both _ _ e.1 in
      let r = both _ _ w.1 in
      let m = both _ _ r.1 in
      let s = both _ _ m.1 in
      record {
        plan = p.0;
        next = leb-true _ _ q.0;
        base = leb-true _ _ b.0;
        earlier = e.0;
        writes = w.0;
        reads = r.0;
        missing = m.0;
        stopped = not_other (inside_slow d.recogniser.phase) _ (not-true _ s.0);
        fits = subst⁻¹ T s.1 tt;
      }
