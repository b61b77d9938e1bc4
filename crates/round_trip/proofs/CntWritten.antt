-- CNT behind a WrRegister, by a plan that fits and sixteen registers; and registers at 0.
-- Assumes nothing.
use mathlib.Core.Bool.{true, false, cond, not}
use mathlib.Core.Logic.{⊎_elim}
use mathlib.Core.Path.{◌≡◌, ◌∙◌, refl, sym, subst}
use Prim.Native.Nat.{ℕ, zero, suc, ◌<◌}
use lib.Dec.{eqb}
use lib.ListN.{length, get_or, replicate}
use lib.Seq.{get_or-set_same, get_or-set_other}
use borrow.Author.Tests.{eqb-true, eqb-false, not-true, ne_eqb}
use Rattle.bits.proofs.Truth.{cases, clash, both}
use Rattle.plans.specs.declared.Plan.{Plan}
use Rattle.registers.specs.declared.Model.{Model}
use Rattle.plans.specs.Plan.{exists_at, plan_fits}
use Rattle.registers.specs.Registers.{cnt_of, written_of}
use Rattle.plans.proofs.PlanAddresses.{exists_low}

-- Registers at 0 read as 0.
pub zeros_at : (n k : ℕ) → get_or {A = ℕ} (replicate n 0) k 0 ≡ 0
zeros_at zero k = refl
zeros_at (suc n) zero = refl
zeros_at (suc n) (suc k) = zeros_at n k

-- CNT's address is in the mask, and is not CSR's.
pub record CntThere (plan : Plan) : Type 0 where
  pub exists : exists_at plan plan.cnt ≡ true
  pub other : eqb plan.csr plan.cnt ≡ false

pub cnt_there : (plan : Plan) → plan_fits plan ≡ true → CntThere plan
unfolding plan_fits
cnt_there plan fits =
    let a = (both (exists_at plan plan.csr) _ fits).1 in
    let b = (both (exists_at plan plan.feen) _ a).1 in
    let c = both (exists_at plan plan.cnt) _ b in
    let d = (both (not (eqb plan.csr plan.feen)) _ c.1).1 in
    let e = (both (not (eqb plan.csr plan.cnt)) _ d).0 in
    record { exists = c.0; other = not-true _ e }

module _ (plan : Plan) (there : CntThere plan) where
  low : plan.cnt < 16
  low = exists_low plan plan.cnt there.exists

  module _ (m : Model) (sixteen : length m.registers ≡ 16) (address value : ℕ) where
    abbrev behind : ℕ
    behind = get_or (written_of plan m address value) plan.cnt 0

    pub written_cnt : behind ≡ cond (eqb address plan.cnt) value (cnt_of plan m)
    written_cnt =
        ⊎_elim
        (λ t.
        let e = eqb-true address plan.cnt t in
        let other = ne_eqb plan.cnt plan.csr (λ f. eqb-false _ _ there.other (sym f)) in
        rw (t, e) (get_or-set_same m.registers plan.cnt _ 0 (rw sixteen low) ∙ rw other))
        (λ f. rw f (get_or-set_other m.registers address plan.cnt _ 0 (λ e. eqb-false address plan.cnt f (sym e))))
        (cases (eqb address plan.cnt))

    -- A missing register is not CNT's.
    pub missing_cnt : exists_at plan address ≡ false → cnt_of plan m ≡ cond (eqb address plan.cnt) value (cnt_of plan m)
    missing_cnt none =
        let other : eqb address plan.cnt ≡ false =
        ne_eqb address plan.cnt (λ e. clash there.exists (subst (λ a. exists_at plan a ≡ false) e none)) in
        rw other
