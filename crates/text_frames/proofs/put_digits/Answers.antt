-- `put_digits` meets its contract: the bytes of the digits that are left, put at the present place, give what all of them give.
-- Assumes nothing.
use mathlib.Core.List.{[], ◌∷◌}
use mathlib.Core.Path.{◌≡◌}
use Prim.Native.Nat.{◌*◌, ◌≤◌, ◌<◌}
use lib.ListN.{length}
use native.Mathlib.Omega.{arith}
use Rattle.output.proofs.Pieces.{none_put, next_put, next_fits, all_put}
use Rattle.text_frames.proofs.Frames.{bytes_few, bytes_next, bytes_done}
use Rattle.text_frames.proofs.put_digits.Goals as goal

pub loop-n-init : goal.loop-n-init
loop-n-init c = none_put _ _ _ (omega (arith, bytes_few c.args.digits.now, c.requires))

pub bounds-bytes-n : goal.bounds-bytes-n
bounds-bytes-n c =
    let more : 2 * c.loop-n.n < length c.args.digits.now = omega (arith, c.div_ceil-size.ensures) in
    omega (arith, next_fits c.loop-n.invariant (_ ∷ []) _ (bytes_next c.args.digits.now c.loop-n.n more))

pub loop-n-preserved : goal.loop-n-preserved
loop-n-preserved c =
    let more : 2 * c.loop-n.n < length c.args.digits.now = omega (arith, c.div_ceil-size.ensures) in
    next_put c.loop-n.invariant (_ ∷ []) _ (bytes_next c.args.digits.now c.loop-n.n more) _ _
    (rw (c.half_at-high.ensures.0, c.half_at-low.ensures.0))

pub returns : goal.returns
returns c =
    let e : c.div_ceil-size.result ≡ c.loop-n.n = omega arith in
    let whole : length c.args.digits.now ≤ 2 * c.loop-n.n = omega (arith, c.div_ceil-size.ensures) in
    rw e (all_put c.loop-n.invariant (bytes_done c.args.digits.now c.loop-n.n whole))
