-- `is_left_by_some` is below two to the power of the bits received.
-- Assumes nothing.
use mathlib.Core.Path.{◌≡◌, sym}
use Prim.Native.Nat.{◌*◌, ◌%◌, ◌^◌, ◌<◌}
use native.Mathlib.Omega.{arith}
use lib.Pow.{pow-lt}
use Rattle.groups.proofs.LeftBits.{left_below}
use Rattle.groups.proofs.is_left_by_some.Goals as goal

pub overflow_cast-result : goal.overflow_cast-result
overflow_cast-result c = omega (arith, c.requires)

pub overflow_shl-result : goal.overflow_shl-result
overflow_shl-result c = c.requires

pub returns : goal.returns
returns c =
    let n = c.args.received in
    let byte : 2 ^ n < 2 ^ 8 = pow-lt c.requires in
    let e : 1 * 2 ^ n % 256 ≡ 2 ^ n = omega arith in
    rw e (sym (left_below n c.args.group (omega (arith, c.requires))))
