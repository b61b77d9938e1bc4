-- Soundness of a state (document 01, "A taking call", the paragraph below the table; document 02, F-5).
-- Assumes nothing.
use Rattle.std.specs.Prelude.{Bool, true, false, not, ◌&&◌, leb}
use Rattle.recogniser.specs.declared.Phase.{Phase}
use Rattle.recogniser.specs.declared.Phase.TheVariants.{Hunt, Body, Field3, Field4, Field5}
use Rattle.plans.specs.Plan.{plan_fits}
use Rattle.registers.specs.Registers.{cnt_of}
use Rattle.registers.specs.Sound.{pointers_fit, missing_zero}
use Rattle.timing.specs.TooClose.{earlier_below}
use Rattle.fit_recognisers.specs.Fit.{fit_of}
use Rattle.decoder.specs.declared.Decoder.{Decoder}
use Rattle.limits.specs.Limits.{clock_limit}

-- "RunMode is off inside a Slow command".
abbrev pub inside_slow : Phase → Bool
inside_slow Hunt = false
inside_slow Body = false
inside_slow Field3 = true
inside_slow Field4 = true
inside_slow Field5 = true

-- "A state is sound when its plan would open; the next cycle is at most 2^48 and the base not beyond it; pointers are below 128; missing registers
-- hold 0; RunMode is off inside a Slow command"; and what `fit_of` says of the window and the fields. Registers and L1ID fit by their types. Document 02,
-- F-5: "a sound state has that time", the earlier record's, "below its next cycle".
unfoldable pub sound_of : Decoder → Bool
sound_of d =
    plan_fits d.plan
    && (leb d.next clock_limit
    && (leb d.model.counters.base d.next
    && (earlier_below d.earlier d.next
    && (pointers_fit d.model.pointers.writes
    && (pointers_fit d.model.pointers.reads
    && (missing_zero d.plan d.model
    && (not (inside_slow d.recogniser.phase && d.model.running)
    && fit_of d.recogniser (cnt_of d.plan d.model))))))))
