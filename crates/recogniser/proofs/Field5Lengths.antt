-- The count of the bits of Field 5 fits.
-- Assumes nothing.
use mathlib.Core.Path.{◌≡◌}
use mathlib.Core.Bool.{false}
use Prim.Native.Nat.{ℕ, ◌+◌, ◌^◌, ◌<◌}
use native.Mathlib.Omega.{arith}
use borrow.Author.Tests.{leb-false}
use mir.Syntax.{w32}
use mir.Val.{Fits}
use Rattle.slow_fields.specs.Slow.{length_of}
use Rattle.slow_fields.proofs.Lengths.{length_most}
use Rattle.recogniser.specs.declared.Recogniser.{Recogniser}
use Rattle.recogniser.specs.Fields.{ends_of}

-- Where Field 5 goes on, the count of its bits fits.
pub count_fits : (r : Recogniser) (cnt : ℕ) → cnt < 2 ^ 16 → ends_of r cnt ≡ false → Fits w32 (r.count + 1)
count_fits r cnt h e = omega (arith, leb-false (length_of r.command cnt) (r.count + 1) e, length_most r.command cnt h)
