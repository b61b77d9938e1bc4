-- `step` is one cycle, by the phase.
-- Assumes nothing.
use mathlib.Core.Path.{◌∙◌, sym}
use Rattle.recogniser.proofs.StepByPhase.{step_at}
use Rattle.steps.proofs.step.Goals as goal

pub returns-in-Hunt : goal.returns-in-Hunt
returns-in-Hunt c = c.hunt.ensures ∙ sym (step_at _ _ _ c.in-Hunt.is)

pub returns-in-Body : goal.returns-in-Body
returns-in-Body c = c.body.ensures ∙ sym (step_at _ _ _ c.in-Body.is)

pub returns-in-Field3 : goal.returns-in-Field3
returns-in-Field3 c = c.field3.ensures ∙ sym (step_at _ _ _ c.in-Field3.is)

pub returns-in-Field4 : goal.returns-in-Field4
returns-in-Field4 c = c.field4.ensures ∙ sym (step_at _ _ _ c.in-Field4.is)

pub returns-in-Field5 : goal.returns-in-Field5
returns-in-Field5 c = c.field5.ensures ∙ sym (step_at _ _ _ c.in-Field5.is)
