-- A Fast in RunMode that is neither BCR nor ECR leaves the model as it is.
-- Assumes nothing.
use mathlib.Core.Bool.{true, false, cond}
use mathlib.Core.Path.{◌≡◌, sym}
use Prim.Native.Nat.{ℕ}
use lib.Dec.{eqb}
use Rattle.registers.specs.declared.Model.{Model}
use Rattle.registers.specs.Parts.{counters, zero_pointers, with_counters, with_pointers}
use Rattle.records.specs.Records.{record_of, kind_fast}
use Rattle.triggers.specs.Triggers.{recorded, fast_record, fast_of}

pub unchanged : (m : Model) (body time : ℕ) → m.running ≡ true → eqb body 0b0001 ≡ false → eqb body 0b0010 ≡ false
    → recorded m (record_of time (kind_fast body) 1 0) ≡ fast_of m body time
unchanged m body time on bcr ecr = sym (λ i.
    let counted = counters (cond (ecr i) 0 m.counters.l1id) (cond (bcr i) time m.counters.base) in
    let pointed = with_pointers (cond (ecr i) zero_pointers m.pointers) m in
    recorded (cond (on i) (with_counters counted pointed) m) (fast_record (on i) body time))
