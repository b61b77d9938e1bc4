-- What a fit order has: a kind that fits a byte, and its used fields of their size.
-- Assumes nothing.
use mathlib.Core.Bool.{Bool, true, false, cond, ◌&&◌}
use mathlib.Core.Logic.{⊎_elim}
use mathlib.Core.Path.{◌≡◌, ◌∙◌, refl, sym}
use Prim.Native.Nat.{ℕ, ◌+◌, ◌*◌, ◌-◌, ◌/◌, ◌^◌, ◌<◌, ◌≤◌}
use native.Mathlib.Omega.{arith}
use lib.Dec.{leb, eqb}
use borrow.Author.Tests.{ne_eqb, le-leb, lt-leb, leb-true, ltb-true, eqb-true, leb-false}
use Rattle.bits.proofs.Truth.{both, cases, clash}
use Rattle.orders.specs.declared.Order.{Order}
use Rattle.orders.specs.Fields.{is_known, is_frame_kind, uses_value, value_width, frame_count, address_fits, value_fits, frame_fits, order_fits}

-- No command has a kind of more than a byte.
pub unknown_above : (kind : ℕ) → 256 ≤ kind → is_known kind ≡ false
unknown_above kind h =
    simp (
      ne_eqb kind 1 (λ e. omega arith),
      le-leb 32 kind (omega arith),
      lt-leb (kind - 32) 6 (omega arith),
      lt-leb (kind - 32) 10 (omega arith),
      le-leb 8 (kind - 32) (omega arith),
    )

pub known_low : (kind : ℕ) → is_known kind ≡ true → kind < 256
known_low kind e =
    ⊎_elim (λ (t : leb 256 kind ≡ true). clash e (unknown_above kind (leb-true 256 kind t)))
    (λ (f : leb 256 kind ≡ false). leb-false 256 kind f) (cases (leb 256 kind))

-- So many bits in so many bytes, without a product.
pub by_bytes : (bits bytes : ℕ) → leb ((bits + 7) / 8) bytes ≡ leb bits (8 * bytes)
by_bytes bits bytes =
    ⊎_elim (λ (t : leb bits (8 * bytes) ≡ true). le-leb ((bits + 7) / 8) bytes (omega (arith, leb-true bits (8 * bytes) t)) ∙ sym t)
    (λ (f : leb bits (8 * bytes) ≡ false). lt-leb ((bits + 7) / 8) bytes (omega (arith, leb-false bits (8 * bytes) f)) ∙ sym f)
    (cases (leb bits (8 * bytes)))

-- What a test asks only where another holds.
under : (a : Bool) {b : Bool} → a ≡ true → cond a b true ≡ true → b ≡ true
under true e h = h
under false e h = clash e refl

-- The parts of the test.
pub record Fitting (cnt : ℕ) (o : Order) (bytes : ℕ) : Type 0 where
  pub known : is_known o.kind ≡ true
  pub address : address_fits o ≡ true
  pub value : value_fits o ≡ true
  pub frame : frame_fits cnt o bytes ≡ true

pub fitting : (cnt : ℕ) (o : Order) (bytes : ℕ) → order_fits cnt o bytes ≡ true → Fitting cnt o bytes
unfolding order_fits
fitting cnt o bytes e =
    let a = both (is_known o.kind) (address_fits o && (value_fits o && frame_fits cnt o bytes)) e in
    let b = both (address_fits o) (value_fits o && frame_fits cnt o bytes) a.1 in
    let d = both (value_fits o) (frame_fits cnt o bytes) b.1 in
    record { known = a.0; address = b.0; value = d.0; frame = d.1 }

module _ {cnt : ℕ} {o : Order} {bytes : ℕ} (f : Fitting cnt o bytes) where
  pub kind_low : o.kind < 256
  kind_low = known_low o.kind f.known

  -- Of the kinds below the Slows', LV1's is the only one below the Fasts'.
  pub fast_above : (o.kind ≡ 1 → ⊥) → o.kind < 32 → 16 ≤ o.kind
  fast_above n h =
      ⊎_elim (λ (t : leb 16 o.kind ≡ true). leb-true 16 o.kind t)
      (λ (e : leb 16 o.kind ≡ false). clash f.known (simp (ne_eqb o.kind 1 n, lt-leb 32 o.kind h, e))) (cases (leb 16 o.kind))

  -- A value that WrRegister writes has sixteen bits.
  pub register_low : o.kind ≡ 32 → o.value < 65536
  register_low e =
      let width : value_width o.kind ≡ 16 = rw e in
      let low = ltb-true o.value (2 ^ value_width o.kind) (under (uses_value o.kind) (rw width) f.value) in
      rw width at low

  -- A frame has the bits that CNT asks, and they are lent.
  pub frame_counted : is_frame_kind o.kind ≡ true → (o.bits ≡ frame_count o.kind cnt) × (o.bits ≤ 8 * bytes)
  frame_counted e =
      let all : (eqb o.bits (frame_count o.kind cnt) && leb o.bits (8 * bytes)) ≡ true = under (is_frame_kind o.kind) e f.frame in
      let s = both (eqb o.bits (frame_count o.kind cnt)) (leb o.bits (8 * bytes)) all in
      (eqb-true o.bits (frame_count o.kind cnt) s.0, leb-true o.bits (8 * bytes) s.1)
