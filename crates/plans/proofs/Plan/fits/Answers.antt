-- `Plan::fits` answers `plan_fits`.
-- Assumes nothing.
use Rattle.plans.specs.Plan.{plan_fits}
use Rattle.plans.proofs.Plan.fits.Goals as goal

pub returns : goal.returns
unfolding plan_fits
returns c =
    let cnt = c.before.before.before in
    simp (cnt.exists_at-csr.ensures, cnt.exists_at-feen.ensures, cnt.exists_at-cnt.ensures)
