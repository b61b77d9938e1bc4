-- `Writer::finish` writes what is held of the last byte, filled up with zeros, if there is any.
-- Assumes nothing.
use mathlib.Core.Path.{ap}
use Prim.Native.Nat.{ℕ}
use native.Mathlib.Nat.{mod-eq_of_lt}
use native.Mathlib.Omega.{arith}
use lib.ListN.{set}
use borrow.Author.Tests.{eq-eqb, ne_eqb}
use Rattle.stream_writer.proofs.Packing.{parts}
use Rattle.stream_writer.proofs.Writer.finish.Goals as goal

pub returns-then-self-eq0 : goal.returns-then-self-eq0
returns-then-self-eq0 c = simp (eq-eqb _ _ c.if-self-eq0.true)

pub returns : goal.returns
returns c =
    let t = c in
    let s = t in
    let a = s.args in
    let last = (parts a.self.held 0 (omega arith) a.self.filled s.requires.0.part s.requires.0.held).last in
    rw (ne_eqb _ _ t.if-self-eq0.false) (ap (λ (n : ℕ). set a.out.now a.self.at n) (mod-eq_of_lt last))
