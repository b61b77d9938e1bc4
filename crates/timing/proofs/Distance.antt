-- The distance between two records, and the same test without subtraction.
-- Assumes nothing.
use mathlib.Core.Bool.{not, ◌&&◌}
use mathlib.Core.Logic.{⊎_elim}
use mathlib.Core.Path.{◌≡◌, ◌∙◌, refl, sym, ap}
use Prim.Native.Nat.{ℕ, zero, suc, ◌+◌, ◌-◌, ◌<◌}
use native.Mathlib.Omega.{arith}
use lib.Dec.{ltb, ltb→lt, nltb→le}
use lib.IntN.{ℤ, pos, negsuc, ◌-ℤ◌}
use lib.Signed.{lt_z}
use borrow.Author.Tests.{lt-ltb, ltb-true}
use Rattle.bits.proofs.Truth.{clash, cases, cond_case}
use Rattle.timing.specs.declared.Earlier.{Earlier}
use Rattle.timing.specs.Table.{zeros_asked}
use Rattle.timing.specs.TooClose.{is_none, cycles_back, too_close}

-- two tests with one condition agree
same_test : (a b c d : ℕ) → (a < b → c < d) → (c < d → a < b) → ltb a b ≡ ltb c d
same_test a b c d f g =
    ⊎_elim (λ t. t ∙ sym (lt-ltb c d (f (ltb-true a b t))))
    (λ n. ⊎_elim (λ t. clash (lt-ltb a b (g (ltb-true c d t))) n) (λ m. n ∙ sym m) (cases (ltb c d))) (cases (ltb a b))

-- A number less n is below z exactly when the number itself is below z and n together.
less : (k : ℤ) (n z : ℕ) → lt_z (k -ℤ pos n) (pos z) ≡ lt_z k (pos (z + n))
less (pos a) zero z = same_test (a + 0) z a (z + 0) (λ h. omega arith) (λ h. omega arith)
less (pos a) (suc n) z =
    cond_case (λ k. lt_z k (pos z) ≡ ltb a (z + suc n)) (ltb a (suc n))
    (λ t. let h = ltb→lt a (suc n) t in sym (lt-ltb a (z + suc n) (omega arith)))
    (λ t. let g = nltb→le a (suc n) t in same_test (a - suc n) z a (z + suc n) (λ h. omega arith) (λ h. omega arith))
less (negsuc a) zero z = rw (lt-ltb 0 (suc a) (omega arith))
less (negsuc a) (suc n) z = refl

-- The test without subtraction: a record's time is below the earlier one's, its own length and the zeros asked together.
pub without_subtraction : (e : Earlier) (time kind cnt : ℕ)
    → too_close e time kind cnt ≡ (not (is_none e) && ltb time (e.time + (cycles_back kind cnt + 1) + zeros_asked e.kind kind))
unfolding too_close
without_subtraction e time kind cnt =
    let back = cycles_back kind cnt in
    let asked = zeros_asked e.kind kind in
    let first = pos time -ℤ pos back in
    let sum : asked + 1 + e.time + back ≡ e.time + (back + 1) + asked = omega arith in
    ap (λ b. not (is_none e) && b)
    (less (first -ℤ pos e.time) 1 asked ∙ less first e.time (asked + 1) ∙ less (pos time) back (asked + 1 + e.time)
    ∙ ap (ltb time) sum)
