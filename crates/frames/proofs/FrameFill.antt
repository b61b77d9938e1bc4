-- A frame fills the tray: once its last bit is stored, the part that it fills holds its bits, and 0 beyond them, whatever the tray held before.
-- Assumes nothing.
use mathlib.Core.List.{List, [], ◌∷◌, ◌++◌, append-nil, append_assoc}
use mathlib.Core.Logic.{⊎_elim}
use mathlib.Core.Path.{◌≡◌, refl, ◌∙◌, ap, sym}
use Prim.Native.Nat.{ℕ, ◌+◌, ◌*◌, ◌/◌, ◌%◌, ◌<◌, ◌≤◌}
use native.Mathlib.Nat.{eq-or-lt_of_le}
use native.Mathlib.Omega.{arith}
use lib.Dec.{T, ltb, eqb, ltb→lt}
use lib.ListN.{length, get_or, drop, length-append, get_or-append, get_or-eq_default}
use lib.Seq.{get_or_at, get_or-take, length-take-le, drop-set-lt}
use borrow.Author.Tests.{le-leb, ltb-true, ltb-false, eqb-true, eqb-false}
use Rattle.bits.specs.Bits.{bit_of}
use Rattle.bits.proofs.Truth.{cases, and_left, and_right}
use Rattle.bits.proofs.BitRanges.{binary}
use Rattle.frames.specs.Tray.{stored_of, filled_of, part_of, PartHolds}
use Rattle.frames.proofs.TrayLaws.{stored_length, stored_bit, stored_before, stored_first, stored_later}

-- A tray that holds a frame's bits so far, and 0 in the rest of the last byte.
abbrev Holds : (ℕ → ℕ) → ℕ → List ℕ → Type 0
Holds frame bits tray = (i : ℕ) → i < 8 * ((bits + 7) / 8) → bit_of tray i ≡ frame i

-- One bit more.
module _ (tray : List ℕ) (bits bit : ℕ) (inside : bits < 8 * length tray) (low : bit < 2) (before after : ℕ → ℕ)
    (none : (i : ℕ) → bits ≤ i → before i ≡ 0) (same : (i : ℕ) → i < bits → after i ≡ before i) (new : after bits ≡ bit)
    (none_after : (i : ℕ) → bits < i → after i ≡ 0) (holds : Holds before bits tray) where
  later_bit : (i : ℕ) → bits < i → i / 8 ≡ bits / 8 → bit_of (stored_of tray bits bit) i ≡ after i
  later_bit i l e =
      ⊎_elim
      (λ z. stored_first tray bits bit inside i l e (eqb-true (bits % 8) 0 z) ∙ sym (none_after i l))
      (λ z.
      let n : bits % 8 ≡ 0 → ⊥ = eqb-false (bits % 8) 0 z in
      stored_later tray bits bit inside i l e n ∙ holds i (omega (arith, part n)) ∙ none i (omega arith) ∙ sym (none_after i l))
      (cases (eqb (bits % 8) 0))
    where
      part : (bits % 8 ≡ 0 → ⊥) → 0 < bits % 8
      part n = omega arith

  stored_holds : Holds after (bits + 1) (stored_of tray bits bit)
  stored_holds i h =
      ⊎_elim
      (λ t. let l = ltb-true i bits t in stored_before tray bits bit inside i l ∙ holds i (omega arith) ∙ sym (same i l))
      (λ t.
      ⊎_elim (λ (e : bits ≡ i). rw (← e) (stored_bit tray bits bit inside low ∙ sym new)) (λ (l : bits < i). later_bit i l (omega arith))
      (eq-or-lt_of_le {n = bits} {m = i} (ltb-false i bits t)))
      (cases (ltb i bits))

-- A list with one number more.
module _ (xs : List ℕ) (bit k : ℕ) where
  more_before : k < length xs → get_or (xs ++ (bit ∷ [])) k 0 ≡ get_or xs k 0
  more_before h = get_or-append xs (bit ∷ []) 0 k h

  more_last : length xs ≡ k → get_or (xs ++ (bit ∷ [])) k 0 ≡ bit
  more_last e = get_or_at xs bit [] 0 k e

  more_beyond : length xs < k → get_or (xs ++ (bit ∷ [])) k 0 ≡ 0
  more_beyond h = get_or-eq_default (xs ++ (bit ∷ [])) 0 (rw length-append (omega arith))

-- A tray that holds all of a frame's bits so far.
abbrev Held : List ℕ → List ℕ → Type 0
Held frame tray = Holds (λ i. get_or frame i 0) (length frame) tray

held_more : (xs : List ℕ) (bit : ℕ) (tray : List ℕ) → bit < 2 → length xs < 8 * length tray → Held xs tray
    → Held (xs ++ (bit ∷ [])) (stored_of tray (length xs) bit)
held_more xs bit tray low room held =
    rw length-append
    (stored_holds tray (length xs) bit room low (λ i. get_or xs i 0) (λ i. get_or (xs ++ (bit ∷ [])) i 0)
    (λ i h. get_or-eq_default xs 0 h) (λ i h. more_before xs bit i h) (more_last xs bit (length xs) refl)
    (λ i h. more_beyond xs bit i h) held)

-- All bits, one after the other.
fills : (bits xs : List ℕ) (n : ℕ) (tray : List ℕ) → length xs ≡ n → T (binary bits) → n + length bits ≤ 8 * length tray → Held xs tray
    → Held (xs ++ bits) (filled_of n tray bits)
fills [] xs n tray e b room held = rw append-nil held
fills (bit ∷ bits) xs n tray e b room held =
    let low = ltb→lt bit 2 (and_left (ltb bit 2) (binary bits) b) in
    let here : Held (xs ++ (bit ∷ [])) (stored_of tray n bit) = rw (← e) (held_more xs bit tray low (omega arith) held) in
    let same = stored_length tray n bit in
    rw append_assoc at
    (fills bits (xs ++ (bit ∷ [])) (n + 1) (stored_of tray n bit) (length-append xs (bit ∷ []) ∙ ap (λ k. k + 1) e)
    (and_right (ltb bit 2) (binary bits) b) (omega arith) here)

pub filled_length : (bits : List ℕ) (n : ℕ) (tray : List ℕ) → length (filled_of n tray bits) ≡ length tray
filled_length [] n tray = refl
filled_length (bit ∷ bits) n tray = filled_length bits (n + 1) (stored_of tray n bit) ∙ stored_length tray n bit

-- Each bit of the bytes that a frame fills is its own, and 0 beyond its last.
pub filled_read : (frame tray : List ℕ) → T (binary frame) → length frame ≤ 8 * length tray
    → (i : ℕ) → i < 8 * ((length frame + 7) / 8) → bit_of (filled_of 0 tray frame) i ≡ get_or frame i 0
filled_read frame tray b room = fills frame [] 0 tray refl b (omega arith) (λ i h. absurd (omega arith))

pub part_holds : (frame tray : List ℕ) → T (binary frame) → length frame ≤ 8 * length tray
    → PartHolds frame (part_of (filled_of 0 tray frame) (length frame))
part_holds frame tray b room =
    let after : List ℕ = filled_of 0 tray frame in
    let same = filled_length frame 0 tray in
    let n = (length frame + 7) / 8 in
    let long = length-take-le n after (omega arith) in
    let held = filled_read frame tray b room in
    rw (le-leb (length frame) (8 * length after) (omega arith))
    (record {
      long = long;
      bits = λ i h. rw (get_or-take n after (i / 8) 0 (omega arith)) (held i (omega arith));
    })

-- Bytes beyond stay.
pub filled_beyond : (n : ℕ) (bits : List ℕ) (place : ℕ) (tray : List ℕ) → place + length bits ≤ 8 * n → drop n (filled_of place tray bits) ≡ drop n tray
filled_beyond n [] place tray h = refl
filled_beyond n (bit ∷ bits) place tray h =
    filled_beyond n bits (place + 1) (stored_of tray place bit) (omega arith) ∙ drop-set-lt n tray (place / 8) _ (omega arith)
