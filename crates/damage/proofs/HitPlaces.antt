-- Where inverted bits lie: none or one among some bits, and what that makes of them.
-- Assumes nothing.
use mathlib.Core.Path.{◌≡◌, ◌∙◌, refl, ap, ap₂}
use mathlib.Core.Bool.{Bool, true, false, cond}
use mathlib.Core.List.{List, [], ◌∷◌, ◌++◌}
use mathlib.Core.Logic.{◌⊎◌, inl, inr, ⊎_elim}
use Prim.Native.Nat.{ℕ, zero, suc, ◌+◌, ◌-◌, ◌<◌, ◌≤◌}
use native.Mathlib.Nat.{le_of_suc-le-suc, not-suc-le-zero}
use native.Mathlib.Omega.{arith}
use lib.ListN.{length}
use Rattle.bits.proofs.Truth.{clash, cases}
use Rattle.damage.specs.Inverted.{inverted}
use Rattle.damage.specs.Hits.{HitCycles, inverted_at, hits_in}

-- Of m bits from cycle n on those are inverted that pass a test.
abbrev pub Among : HitCycles → ℕ → ℕ → (ℕ → Bool) → Type 0
Among hits n m test = (k : ℕ) → k < m → hits (n + k) ≡ test k

module _ (hits : HitCycles) (n m : ℕ) (test : ℕ → Bool) where
  pub among_at : Among hits n m test → (q : ℕ) → n ≤ q → q < n + m → hits q ≡ test (q - n)
  among_at among q from inside = let z : n + (q - n) ≡ q = omega arith in rw z at (among (q - n) (omega arith))

  among_first : Among hits n (suc m) test → hits n ≡ test 0
  among_first among = let z : n + 0 ≡ n = omega arith in rw z at (among 0 (omega arith))

  among_rest : Among hits n (suc m) test → Among hits (suc n) m (λ k. test (suc k))
  among_rest among k h = let z : n + suc k ≡ suc n + k = omega arith in rw z at (among (suc k) (omega arith))

  among_both : hits n ≡ test 0 → Among hits (suc n) m (λ k. test (suc k)) → Among hits n (suc m) test
  among_both first rest zero h = let z : n + 0 ≡ n = omega arith in rw z first
  among_both first rest (suc k) h = let z : n + suc k ≡ suc n + k = omega arith in rw z (rest k (le_of_suc-le-suc h))

-- None of them; bit k alone.
abbrev none : ℕ → Bool
none k = false

abbrev pub only : ℕ → ℕ → Bool
only zero zero = true
only zero (suc j) = false
only (suc k) zero = false
only (suc k) (suc j) = only k j

abbrev pub Missed : HitCycles → ℕ → ℕ → Type 0
Missed hits n m = Among hits n m none

abbrev pub Once : HitCycles → ℕ → ℕ → ℕ → Type 0
Once hits n m k = Among hits n m (only k)

pub only_itself : (k : ℕ) → only k k ≡ true
only_itself zero = refl
only_itself (suc k) = only_itself k

pub only_one : (k j : ℕ) → only k j ≡ true → j ≡ k
only_one zero zero e = refl
only_one zero (suc j) e = clash e refl
only_one (suc k) zero e = clash e refl
only_one (suc k) (suc j) e = ap suc (only_one k j e)

-- The bits, of which none or one is inverted, and two parts of them.
module _ (hits : HitCycles) where
  pub inverted_append : (n : ℕ) (xs ys : List ℕ) → inverted_at hits n (xs ++ ys) ≡ inverted_at hits n xs ++ inverted_at hits (n + length xs) ys
  inverted_append n [] ys = ap (λ m. inverted_at hits m ys) (omega arith)
  inverted_append n (x ∷ xs) ys =
      let z : suc n + length xs ≡ n + suc (length xs) = omega arith in
      ap (λ (l : List ℕ). inverted_at hits n (x ∷ []) ++ l)
      (inverted_append (suc n) xs ys ∙ ap (λ m. inverted_at hits (suc n) xs ++ inverted_at hits m ys) z)

  inverted_both : (n x : ℕ) (xs : List ℕ) (test : ℕ → Bool) {ys : List ℕ} → Among hits n (suc (length xs)) test → inverted_at hits (suc n) xs ≡ ys
      → inverted_at hits n (x ∷ xs) ≡ cond (test 0) (1 - x) x ∷ ys
  inverted_both n x xs test h e = ap₂ (λ b (l : List ℕ). cond b (1 - x) x ∷ l) (among_first hits n (length xs) test h) e

  pub inverted_none : (n : ℕ) (xs : List ℕ) → Missed hits n (length xs) → inverted_at hits n xs ≡ xs
  inverted_none n [] h = refl
  inverted_none n (x ∷ xs) h = inverted_both n x xs none h (inverted_none (suc n) xs (among_rest hits n (length xs) none h))

  pub inverted_once : (n : ℕ) (xs : List ℕ) (k : ℕ) → Once hits n (length xs) k → inverted_at hits n xs ≡ inverted k xs
  inverted_once n [] k h = refl
  inverted_once n (x ∷ xs) zero h = inverted_both n x xs (only zero) h (inverted_none (suc n) xs (among_rest hits n (length xs) (only zero) h))
  inverted_once n (x ∷ xs) (suc k) h =
      inverted_both n x xs (only (suc k)) h (inverted_once (suc n) xs k (among_rest hits n (length xs) (only (suc k)) h))

-- Counted.
module _ (hits : HitCycles) where
  pub counted : (n m : ℕ) (b : Bool) → hits n ≡ b → hits_in hits n (suc m) ≡ cond b 1 0 + hits_in hits (suc n) m
  counted n m b e = ap (λ b. cond b 1 0 + hits_in hits (suc n) m) e

  pub count_none : (n m : ℕ) → hits_in hits n m ≤ 0 → Missed hits n m
  count_none n zero h = λ k l. absurd (not-suc-le-zero l)
  count_none n (suc m) h =
      ⊎_elim (λ hit. let c = counted n m true hit in absurd (omega arith))
      (λ miss. let c = counted n m false miss in among_both hits n m none miss (count_none (suc n) m (omega arith)))
      (cases (hits n))

  pub count_one : (n m : ℕ) → hits_in hits n m ≤ 1 → Missed hits n m ⊎ ((k : ℕ) × (k < m) × Once hits n m k)
  count_one n zero h = inl (λ k l. absurd (not-suc-le-zero l))
  count_one n (suc m) h =
      ⊎_elim
      (λ hit.
      let c = counted n m true hit in
      inr (0, omega arith, among_both hits n m (only 0) hit (count_none (suc n) m (omega arith))))
      (λ miss.
      let c = counted n m false miss in
      ⊎_elim (λ rest. inl (among_both hits n m none miss rest))
      (λ found. inr (suc found.0, (let l = found.1 in omega arith), among_both hits n m (only (suc found.0)) miss found.2))
      (count_one (suc n) m (omega arith)))
      (cases (hits n))
