-- `advance` is a stretch, by the phase, and the place behind it.
-- Assumes nothing.
use mathlib.Core.Path.{◌∙◌, ap, sym}
use Rattle.stretches.specs.Walk.{walk_of}
use Rattle.stretches.proofs.StretchLoops.{step_walks}
use Rattle.stretches.proofs.SingleCycles.{stretch_at, stretch_once}
use Rattle.stretches.proofs.advance.Goals as goal

pub returns-in-Hunt : goal.returns-in-Hunt
returns-in-Hunt c = c.hunt_on.ensures ∙ ap (walk_of _) (sym (stretch_at _ _ _ c.in-Hunt.is))

pub returns-in-Body : goal.returns-in-Body
returns-in-Body c = c.body_on.ensures ∙ ap (walk_of _) (sym (stretch_at _ _ _ c.in-Body.is))

pub returns-in_default : goal.returns-in_default
returns-in_default c =
    rw c.of.ensures
    (step_walks _ _ _ _ c.requires.0 c.next.ensures _ c.read.ensures c.args.r c.args.cnt _ c.step.ensures
    ∙ ap (walk_of _) (sym (stretch_once c.args.r c.args.cnt _ c.in_default.not-Hunt c.in_default.not-Body)))
