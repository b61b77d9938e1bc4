-- The fields of a fit order: how many bits each has, and what is lent for a frame.
-- Assumes nothing.
use mathlib.Core.Bool.{true, false}
use mathlib.Core.List.{List, [], ◌∷◌}
use mathlib.Core.Logic.{⊎_elim}
use mathlib.Core.Path.{◌≡◌, ◌∙◌, refl, ap}
use Prim.Native.Nat.{ℕ, ◌*◌, ◌-◌, ◌/◌, ◌≤◌}
use native.Mathlib.Omega.{arith}
use lib.Dec.{eqb}
use lib.ListN.{length}
use borrow.Author.Tests.{eqb-true}
use Rattle.bits.proofs.Truth.{cases, clash, cond_most}
use Rattle.slow_fields.specs.Slow.{length_of}
use Rattle.orders.specs.declared.Order.{Order}
use Rattle.orders.specs.Fields.{uses_value, value_width, frame_count}
use Rattle.orders.specs.Streams.{repeated}
use Rattle.orders.proofs.FitOrders.{fitting, frame_counted}
use Rattle.composing.specs.Checked.{FrameFit}

-- Each bit once, and how many bits each so many times are.
pub repeated_once : (bits : List ℕ) → repeated 1 bits ≡ bits
repeated_once [] = refl
repeated_once (bit ∷ bits) = ap (λ l. bit ∷ l) (repeated_once bits)

pub eightfold_length : (bits : List ℕ) → length (repeated 8 bits) ≡ 8 * length bits
eightfold_length [] = refl
eightfold_length (bit ∷ bits) = let h = eightfold_length bits in omega arith

-- A number given for Field 5 has its length.
other_width : (kind : ℕ) → eqb kind 32 ≡ false → eqb kind 34 ≡ false → eqb kind 42 ≡ false → uses_value kind ≡ false
other_width kind a b c = simp (a, b, c)

pub value_length : (kind : ℕ) → uses_value kind ≡ true → length_of (kind - 32) 0 ≡ value_width kind
value_length kind e =
    ⊎_elim (λ (a : eqb kind 32 ≡ true). let k = eqb-true kind 32 a in rw k)
    (λ (a : eqb kind 32 ≡ false).
    ⊎_elim (λ (b : eqb kind 34 ≡ true). let k = eqb-true kind 34 b in rw k)
    (λ (b : eqb kind 34 ≡ false).
    ⊎_elim (λ (d : eqb kind 42 ≡ true). let k = eqb-true kind 42 d in rw k) (λ (d : eqb kind 42 ≡ false). clash e (other_width kind a b d))
    (cases (eqb kind 42)))
    (cases (eqb kind 34)))
    (cases (eqb kind 32))

module _ {o : Order} {bytes : ℕ} (f : FrameFit o bytes) where
  counted : (o.bits ≡ frame_count o.kind f.some.cnt) × (o.bits ≤ 8 * bytes)
  counted = frame_counted (fitting f.some.cnt o bytes f.some.fits) f.frame

  -- A WrReceiver's bits are whole bytes, and these are lent.
  pub receiver_bytes : o.kind ≡ 38 → (8 * (o.bits / 8) ≡ o.bits) × (o.bits / 8 ≤ bytes)
  receiver_bytes e =
      let c : o.bits ≡ frame_count 38 f.some.cnt = counted.0 ∙ ap (λ k. frame_count k f.some.cnt) e in
      omega (arith, c, counted.1)

  pub bits_low : o.bits ≤ 65528
  bits_low =
      let narrow = f.some.narrow in
      let most : frame_count o.kind f.some.cnt ≤ 65528 = cond_most (eqb o.kind 38) (omega (arith, narrow)) (omega (arith, narrow)) in
      omega (arith, most, counted.0)

  pub bits_lent : o.bits ≤ 8 * bytes
  bits_lent = counted.1
