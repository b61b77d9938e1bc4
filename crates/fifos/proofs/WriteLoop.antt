-- What the loop keeps that writes a word to the FIFOs: those that are left do the rest of what all 16 do; and what one FIFO does to that.
-- Assumes nothing.
use mathlib.Core.List.{List}
use mathlib.Core.Path.{◌≡◌, ◌∙◌, refl, sym}
use Prim.Native.Nat.{ℕ, suc, ◌+◌, ◌-◌, ◌/◌, ◌%◌, ◌^◌, ◌<◌, ◌≤◌}
use native.Mathlib.Omega.{arith}
use lib.Bits.{bit_and, and_mask}
use lib.ListN.{length}
use Rattle.limits.specs.Limits.{store_length}
use borrow.Author.Tests.{eq-eqb, ne_eqb}
use Rattle.fifos.specs.Fifos.{Fifos, push_of, push_if, write_of}

abbrev pub fifos : List ℕ → List ℕ → Fifos
fifos writes store = record { writes = writes; store = store }

-- What the FIFOs from n on are left to do gives what all 16 do.
pub record Invariant (feen word : ℕ) (store₀ p₀ store p : List ℕ) (n : ℕ) : Type 0 where
  pub low : n ≤ 16
  pub long : length store ≡ store_length
  pub same : length store ≡ length store₀
  pub wide : length p ≡ 16
  pub rest : write_of (16 - n) n feen word (fifos p store) ≡ write_of 16 0 feen word (fifos p₀ store₀)

pub initially : (feen word : ℕ) (store p : List ℕ) → length store ≡ store_length → length p ≡ 16 → Invariant feen word store p store p 0
initially feen word store p l w = record { low = omega arith; long = l; same = refl; wide = w; rest = refl }

module _ (feen word : ℕ) (store p : List ℕ) (n : ℕ) where
  pub kept : (bit_and (feen / 2 ^ n) 1 ≡ 1 → ⊥) → fifos p store ≡ push_if n feen word (fifos p store)
  kept h = simp (ne_eqb (feen / 2 ^ n % 2) 1 (λ e. h (and_mask (feen / 2 ^ n) 1 ∙ e)))

  pub put : bit_and (feen / 2 ^ n) 1 ≡ 1 → push_of n word (fifos p store) ≡ push_if n feen word (fifos p store)
  put h = simp (eq-eqb (feen / 2 ^ n % 2) 1 (sym (and_mask (feen / 2 ^ n) 1) ∙ h))

module _ {feen word : ℕ} {store₀ p₀ store p : List ℕ} {n : ℕ} (g : Invariant feen word store₀ p₀ store p n) where
  pub again : n < 16 → (store₁ p₁ : List ℕ) → length store₁ ≡ length store → length p₁ ≡ length p
      → fifos p₁ store₁ ≡ push_if n feen word (fifos p store) → Invariant feen word store₀ p₀ store₁ p₁ (n + 1)
  unfolding write_of
  again more store₁ p₁ ls lp e =
      let k : 16 - n ≡ suc (16 - (n + 1)) = omega arith in
      record { low = omega arith; long = ls ∙ g.long; same = ls ∙ g.same; wide = lp ∙ g.wide; rest = rw e (rw k at g.rest) }

  pub over : 16 ≤ n → fifos p store ≡ write_of 16 0 feen word (fifos p₀ store₀)
  unfolding write_of
  over h = let k : 16 - n ≡ 0 = omega arith in rw k at g.rest
