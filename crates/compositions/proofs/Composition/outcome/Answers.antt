-- `Composition::outcome` meets its contract: a refusal, a stream that is too long, or its bytes.
-- Assumes nothing.
use mathlib.Core.Path.{◌∙◌, sym}
use native.Mathlib.Omega.{arith}
use Rattle.compositions.proofs.Rooms.{has_room}
use Rattle.compositions.proofs.Outcomes.{outcome_refused, outcome_long, outcome_whole}
use Rattle.compositions.proofs.Composition.outcome.Goals as goal

pub returns-in-Some : goal.returns-in-Some
returns-in-Some c = outcome_refused _ _ c.requires c.in-Some.refusal c.in-Some.is

pub returns-then-not-room_fits : goal.returns-then-not-room_fits
returns-then-not-room_fits c = outcome_long _ _ c.requires c.in_default.is (sym c.room_fits.ensures ∙ c.if-not-room_fits.true)

pub finish-requires : goal.finish-requires
finish-requires c =
    let w = c.requires in
    let r = sym c.room_fits.ensures ∙ c.if-not-room_fits.false in
    (w.fits, omega (arith, w.placed r, has_room c.args.self.bits r, w.whole))

pub returns : goal.returns
returns c =
    outcome_whole _ _ c.requires c.in_default.is (sym c.room_fits.ensures ∙ c.if-not-room_fits.false) _ c.finish.ensures
