-- Byte and bit of a place: the cursor at a place, one bit on, the bit under it, and the bits that are left.
-- Assumes nothing.
use mathlib.Core.Path.{◌≡◌, ◌∙◌, refl, ap}
use mathlib.Core.Bool.{Bool, true, false}
use mathlib.Core.List.{List, ◌∷◌}
use Prim.Native.Nat.{ℕ, zero, suc, ◌+◌, ◌-◌, ◌/◌, ◌%◌, ◌^◌, ◌<◌}
use native.Mathlib.Omega.{arith}
use lib.Bits.{bit_and, and_mask}
use lib.Dec.{eqb}
use lib.ListN.{get_or}
use mir.Syntax.{w64}
use mir.Val.{Fits, bool_byte}
use borrow.Author.Rules.{rules}
use borrow.Author.Tests.{ne_eqb}
use Rattle.limits.specs.Limits.{input_limit}
use Rattle.bits.specs.declared.Cursor.{Cursor}
use Rattle.bits.specs.Bits.{bit_of, bits_of}
use Rattle.bits.specs.Place.{cursor_at, place_under}
use Rattle.bits.proofs.BitRanges.{first_bit}

abbrev cursor : ℕ → ℕ → Cursor
cursor byte bit = record { byte = byte; bit = bit }

-- A cursor at a place, in numbers.
pub record Stands (c : Cursor) (place : ℕ) : Type 0 where
  pub inside : c.bit < 8
  pub under : place_under c ≡ place

pub stands : {c : Cursor} {place : ℕ} → c ≡ cursor_at place → Stands c place
stands {place = place} e = rw e (record { inside = omega arith; under = omega arith })

pub stands_at : {c : Cursor} {place : ℕ} → Stands c place → c ≡ cursor_at place
stands_at {c} {place} s =
    let p : c.byte ≡ place / 8 = omega (arith, s) in
    let q : c.bit ≡ 7 - place % 8 = omega (arith, s) in
    λ i. cursor (p i) (q i)

-- A shift by 3 and a mask with 7.
pub masked : (place : ℕ) → cursor (place / 8) (7 - bit_and place 7) ≡ cursor_at place
masked place = ap (λ (n : ℕ). cursor (place / 8) (7 - n)) (and_mask place 3)

-- A byte more, or none.
pub byte_fits : (b : Bool) (byte : ℕ) → byte < input_limit → Fits w64 (byte + bool_byte b)
byte_fits true byte h = search rules
byte_fits false byte h = search rules

-- A byte ends with its lowest bit.
carried : (bit : ℕ) → bool_byte (eqb bit 0) ≡ 1 - bit
carried zero = refl
carried (suc n) = rw (ne_eqb (suc n) 0 (λ e. absurd (omega arith))) (omega arith)

module _ (c : Cursor) (h : c.bit < 8) where
  pub one_on : cursor (c.byte + bool_byte (eqb c.bit 0)) (bit_and (c.bit + 7) 7) ≡ cursor_at (place_under c + 1)
  one_on =
      let p : c.byte + bool_byte (eqb c.bit 0) ≡ (place_under c + 1) / 8 = omega (arith, carried c.bit) in
      let q : (c.bit + 7) % 8 ≡ 7 - (place_under c + 1) % 8 = omega arith in
      ap (cursor (c.byte + bool_byte (eqb c.bit 0))) (and_mask (c.bit + 7) 3) ∙ (λ i. cursor (p i) (q i))

  here : c ≡ cursor_at (place_under c)
  here = stands_at (record { inside = h; under = refl })

  -- A byte shifted right and masked to one bit.
  pub bit_under : (input : List ℕ) → bit_and (get_or input c.byte 0 / 2 ^ c.bit) 1 ≡ bit_of input (place_under c)
  bit_under input =
      and_mask (get_or input c.byte 0 / 2 ^ c.bit) 1 ∙ ap (λ (d : Cursor). get_or input d.byte 0 / 2 ^ d.bit % 2) here

-- The bits that are left, where some are: the one under the cursor, and those from one bit on.
pub bits_left : (input : List ℕ) (at next : Cursor) (left : ℕ) → next ≡ cursor_at (place_under at + 1) → 0 < left →
    bits_of input (place_under at) left ≡ bit_of input (place_under at) ∷ bits_of input (place_under next) (left - 1)
bits_left input at next left e h =
    let p : place_under at + 1 ≡ place_under next = omega (arith, stands e) in
    first_bit input (place_under at) left h ∙ ap (λ (n : ℕ). bit_of input (place_under at) ∷ bits_of input n (left - 1)) p
