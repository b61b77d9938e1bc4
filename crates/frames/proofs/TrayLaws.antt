-- The tray keeps its length; a stored frame bit is read at its place; no bit ahead of it or of another byte changes, and a later one of its byte only to 0.
-- Assumes nothing.
use mathlib.Core.Bool.{Bool, true, false, cond}
use mathlib.Core.List.{List}
use mathlib.Core.Logic.{⊎_elim}
use mathlib.Core.Path.{◌≡◌, refl, ◌∙◌, ap, sym}
use Prim.Native.Nat.{ℕ, zero, suc, ◌+◌, ◌*◌, ◌-◌, ◌/◌, ◌%◌, ◌^◌, ◌<◌}
use native.Mathlib.Nat.{eq-or-lt_of_le, pow-suc}
use native.Mathlib.Omega.{arith}
use lib.Dec.{eqb, lit<}
use lib.ListN.{length, get_or, length-set}
use lib.Pow.{shr-shr, shr_le, field, mod-mod-pow}
use lib.Seq.{get_or-set_same, get_or-set_other}
use borrow.Author.Tests.{eq-eqb, ne_eqb}
use Rattle.bits.specs.Bits.{bit_of}
use Rattle.frames.specs.Tray.{with_bit, stored_of}
use Rattle.frames.proofs.Weights.{Put, put}

-- what the frame's bit adds to a byte
scaled : (one : Bool) (weight : ℕ) → cond one weight 0 ≡ cond one 1 0 * weight
scaled true weight = omega arith
scaled false weight = omega arith

bit_low : (one : Bool) → cond one 1 0 < 2
bit_low true = lit< tt
bit_low false = lit< tt

bit_same : (bit : ℕ) → bit < 2 → cond (eqb bit 1) 1 0 ≡ bit
bit_same zero h = refl
bit_same (suc zero) h = refl
bit_same (suc (suc n)) h = absurd (omega arith)

-- A bit of a number below a weight is a bit of what is left by that weight.
bit_of_rest : (n j k : ℕ) → n / 2 ^ k % 2 ≡ n % 2 ^ (suc j + k) / 2 ^ k % 2
bit_of_rest n j k =
    let e : suc j ≡ j + 1 = omega arith in
    sym (ap (λ m. m % 2) (field n (suc j) k) ∙ (rw e (mod-mod-pow (n / 2 ^ k) j 1)))

module _ (byte place bit : ℕ) (h : place < 8) where
  known : Put byte (cond (eqb bit 1) 1 0) (2 ^ (7 - place))
  known = put byte _ (bit_low (eqb bit 1)) place h

  read_with : with_bit byte place bit / 2 ^ (7 - place) % 2 ≡ cond (eqb bit 1) 1 0
  read_with = rw (scaled (eqb bit 1) (2 ^ (7 - place))) known.read

  read_above : (q : ℕ) → q < place → with_bit byte place bit / 2 ^ (7 - q) ≡ byte / 2 ^ (7 - q)
  read_above q l =
      let e : 7 - q ≡ suc (7 - place) + (place - suc q) = omega arith in
      rw (e, ← shr-shr (with_bit byte place bit) _ _, ← shr-shr byte _ _, pow-suc, scaled (eqb bit 1) (2 ^ (7 - place)), known.above)

  read_below : (q : ℕ) → place < q → q < 8 → with_bit byte place bit / 2 ^ (7 - q) % 2 ≡ byte / 2 ^ (7 - q) % 2
  read_below q l low =
      let e : suc (q - suc place) + (7 - q) ≡ 7 - place = omega arith in
      let left : with_bit byte place bit % 2 ^ (7 - place) ≡ byte % 2 ^ (7 - place) = rw (scaled (eqb bit 1) (2 ^ (7 - place))) known.below in
      bit_of_rest (with_bit byte place bit) (q - suc place) (7 - q)
      ∙ ap (λ n. with_bit byte place bit % 2 ^ n / 2 ^ (7 - q) % 2) e
      ∙ ap (λ n. n / 2 ^ (7 - q) % 2) left
      ∙ ap (λ n. byte % 2 ^ n / 2 ^ (7 - q) % 2) (sym e)
      ∙ sym (bit_of_rest byte (q - suc place) (7 - q))

module _ (tray : List ℕ) (place bit : ℕ) where
  pub stored_length : length (stored_of tray place bit) ≡ length tray
  stored_length = length-set tray _ _

  pub stored_bit : place < 8 * length tray → bit < 2 → bit_of (stored_of tray place bit) place ≡ bit
  stored_bit inside h =
      rw (get_or-set_same tray (place / 8) _ 0 (omega arith)) (read_with _ (place % 8) bit (omega arith) ∙ bit_same bit h)

  pub stored_elsewhere : (q : ℕ) → (q / 8 ≡ place / 8 → ⊥) → bit_of (stored_of tray place bit) q ≡ bit_of tray q
  stored_elsewhere q other = rw (get_or-set_other tray (place / 8) (q / 8) _ 0 other)

  pub stored_before : place < 8 * length tray → (q : ℕ) → q < place → bit_of (stored_of tray place bit) q ≡ bit_of tray q
  stored_before inside q l =
      let there : place / 8 < length tray = omega arith in
      ⊎_elim
      (λ e.
      rw (e, ne_eqb (place % 8) 0 (λ z. omega arith), get_or-set_same tray (place / 8) _ 0 there)
      (ap (λ n. n % 2) (read_above _ (place % 8) bit (omega arith) (q % 8) (omega arith))))
      (λ b. stored_elsewhere q (λ e. omega arith))
      (eq-or-lt_of_le {n = q / 8} {m = place / 8} (omega arith))

-- A later bit of the same byte: 0 where the byte was zeroed in this cycle, else as it was.
module _ (tray : List ℕ) (place bit : ℕ) (inside : place < 8 * length tray) (q : ℕ) (l : place < q) (same : q / 8 ≡ place / 8) where
  there : place / 8 < length tray
  there = omega arith

  pub stored_first : place % 8 ≡ 0 → bit_of (stored_of tray place bit) q ≡ 0
  stored_first z =
      rw (same, eq-eqb (place % 8) 0 z, get_or-set_same tray (place / 8) _ 0 there)
      (read_below 0 (place % 8) bit (omega arith) (q % 8) (omega arith) (omega arith) ∙ omega (arith, shr_le 0 (7 - q % 8)))

  pub stored_later : (place % 8 ≡ 0 → ⊥) → bit_of (stored_of tray place bit) q ≡ bit_of tray q
  stored_later n =
      rw (same, ne_eqb (place % 8) 0 n, get_or-set_same tray (place / 8) _ 0 there)
      (read_below (get_or tray (place / 8) 0) (place % 8) bit (omega arith) (q % 8) (omega arith) (omega arith))
