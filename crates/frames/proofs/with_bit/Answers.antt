-- `frames::with_bit` meets its contract: the byte without the bit of that weight, and with it where the frame's bit is 1.
-- Assumes nothing.
use Prim.Native.Nat.{◌-◌, ◌^◌}
use native.Mathlib.Nat.{add-zero}
use native.Mathlib.Omega.{arith}
use lib.Dec.{lit<}
use borrow.Author.Tests.{eq-eqb, ne_eqb}
use Rattle.frames.proofs.Weights.{Put, put}
use Rattle.frames.proofs.with_bit.Goals as goal
use Rattle.frames.proofs.with_bit.Goals.{Start}

known : (c : Start) → Put c.args.byte 1 (2 ^ (7 - c.args.place))
known c = put c.args.byte 1 (lit< tt) c.args.place c.requires

pub nonzero_div-rest : goal.nonzero_div-rest
nonzero_div-rest c = rw (known c).shifted (known c).some

pub overflow_mul-rest : goal.overflow_mul-rest
overflow_mul-rest c = rw (known c).shifted (omega (arith, (known c).less))

pub overflow_sub-rest : goal.overflow_sub-rest
overflow_sub-rest c = rw (known c).shifted (known c).less

pub overflow_add-result : goal.overflow_add-result
overflow_add-result c = rw (known c.before).shifted (omega (arith, (known c.before).fits))

pub returns-then-bit-eq1 : goal.returns-then-bit-eq1
returns-then-bit-eq1 c = simp ((known c.before).shifted, eq-eqb _ _ c.if-bit-eq1.true)

pub returns : goal.returns
returns c = simp ((known c.before).shifted, ne_eqb _ _ c.if-bit-eq1.false, add-zero)
