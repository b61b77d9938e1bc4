-- `put_fault_reason` meets its contract: in each branch the reason is the one that is put there.
-- Assumes nothing.
use Rattle.std.proofs.Common.{◌≡◌, ℕ, rules, ne_eqb}
use Rattle.output.specs.Ascii.{ascii}
use Rattle.fault_messages.specs.FaultSentences.{fault_reason}
use Rattle.fault_messages.proofs.put_fault_reason.Goals as goal

-- the reason, by the number
module _ (number : ℕ) where
  unknown : number ≡ 13 → fault_reason number ≡ ascii "the bits from here on begin none of LV1, BCR, ECR, CAL and SYNC\n"
  unfolding fault_reason
  unknown e = rw e

  cut : number ≡ 14 → fault_reason number ≡ ascii "the input ends inside the command that begins here\n"
  unfolding fault_reason
  cut e = rw e

  too_close : (number ≡ 13 → ⊥) → (number ≡ 14 → ⊥) → fault_reason number ≡ ascii "too few zeros lie ahead of the command that begins here\n"
  unfolding fault_reason
  too_close n n2 = simp (ne_eqb number 13 n, ne_eqb number 14 n2)

pub returns-in-13 : goal.returns-in-13
returns-in-13 c = rw (unknown _ c.in-13.is) c.put_bytes.ensures

pub returns-in-14 : goal.returns-in-14
returns-in-14 c = rw (cut _ c.in-14.is) c.put_bytes-in-14.ensures

pub returns-in_default : goal.returns-in_default
returns-in_default c = rw (too_close c.args.number (search rules) (search rules)) c.put_bytes-in_default.ensures
