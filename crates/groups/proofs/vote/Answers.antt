-- `vote` decides by the ones of a byte, and by its highest bit where they are four.
-- Assumes nothing.
use mathlib.Core.Bool.{cond}
use mathlib.Core.Logic.{⊎_elim}
use mathlib.Core.Path.{◌≡◌}
use Prim.Native.Nat.{ℕ, ◌^◌, ◌<◌}
use native.Mathlib.Omega.{arith}
use lib.Dec.{leb, ltb}
use mir.Val.{bool_byte}
use borrow.Author.Rules.{rules}
use borrow.Author.Tests.{ltb-false, le-leb}
use Rattle.bits.proofs.Truth.{cases}
use Rattle.groups.proofs.Ones.{ones_are}
use Rattle.groups.proofs.vote.Goals as goal

-- By the ones alone, where they are not four.
decided : (n first : ℕ) → (n ≡ 4 → ⊥) → bool_byte (ltb 4 n) ≡ cond (leb 5 n) 1 (cond (leb n 3) 0 first)
decided n first four =
    ⊎_elim (λ t. rw t) (λ f. let h = ltb-false 4 n f in rw (f, le-leb n 3 (omega arith))) (cases (ltb 4 n))

pub overflow_cast-result : goal.overflow_cast-result
overflow_cast-result c = tt

pub returns-then-ones-eq4 : goal.returns-then-ones-eq4
returns-then-ones-eq4 c = let low : c.args.group < 2 ^ 8 = search rules in rw (← ones_are _ low, c.if-ones-eq4.true) (omega arith)

pub returns : goal.returns
returns c = let low : c.args.group < 2 ^ 8 = search rules in rw (← ones_are _ low) (decided _ _ c.if-ones-eq4.false)
