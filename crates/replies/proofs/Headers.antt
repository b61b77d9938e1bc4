-- The header among the bits: the last five of them are 11101 exactly where it stands, and so it is taken at its first place.
-- Assumes nothing.
use mathlib.Core.Bool.{Bool, true, false, cond}
use mathlib.Core.List.{List, [], ◌∷◌, ◌++◌}
use mathlib.Core.Path.{◌≡◌, ◌∙◌, refl, sym, ap}
use Prim.Native.Nat.{ℕ, zero, suc, ◌*◌, ◌/◌, ◌%◌, ◌<◌}
use native.Mathlib.Omega.{arith}
use lib.Dec.{T, eqb, ltb, ltb→lt}
use lib.ListN.{length}
use Rattle.bits.specs.Bits.{shifted}
use Rattle.bits.proofs.Truth.{and_left, and_right, not_both}
use Rattle.bits.proofs.Below.{below_at}
use Rattle.bits.proofs.BitRanges.{binary}
use Rattle.bits.proofs.Shift.{shifted_fits}
use Rattle.replies.specs.declared.Reception.{Reception}
use Rattle.replies.specs.Replies.{header, begins, nowhere, behind, behind_header, result_by, read_of}
use Rattle.replies.specs.Reception.{received, start, after_of}
use Rattle.replies.proofs.Groups.{result_of, data_read}

-- The last four bits of a window, the first received first.
abbrev last_four : ℕ → List ℕ
last_four w = w / 8 % 2 ∷ w / 4 % 2 ∷ w / 2 % 2 ∷ w % 2 ∷ []

-- With one bit more they are the header exactly if the window's number is that; and else the four behind the first of them go on.
pub header_here : (w bit : ℕ) (bits : List ℕ) → w < 32 → bit < 2 → begins header (last_four w ++ (bit ∷ bits)) ≡ eqb (shifted 5 w bit) 0b11101
header_here w zero bits h b = below_at 32 (λ k. begins header (last_four k ++ (0 ∷ bits))) (λ k. eqb (shifted 5 k 0) 0b11101) refl w h
header_here w (suc zero) bits h b = below_at 32 (λ k. begins header (last_four k ++ (1 ∷ bits))) (λ k. eqb (shifted 5 k 1) 0b11101) refl w h
header_here w (suc (suc n)) bits h b = absurd (omega arith)

moved : (w bit : ℕ) → w < 32 → bit < 2 → w / 4 % 2 ∷ w / 2 % 2 ∷ w % 2 ∷ bit ∷ [] ≡ last_four (shifted 5 w bit)
moved w zero h b = below_at 32 (λ k. k / 4 % 2 ∷ k / 2 % 2 ∷ k % 2 ∷ 0 ∷ []) (λ k. last_four (shifted 5 k 0)) refl w h
moved w (suc zero) h b = below_at 32 (λ k. k / 4 % 2 ∷ k / 2 % 2 ∷ k % 2 ∷ 1 ∷ []) (λ k. last_four (shifted 5 k 1)) refl w h
moved w (suc (suc n)) h b = absurd (omega arith)

-- Fewer than five bits have no header.
too_short : (xs bits : List ℕ) → length bits < length xs → begins xs bits ≡ false
too_short [] bits h = absurd (omega arith)
too_short (x ∷ xs) [] h = refl
too_short (x ∷ xs) (bit ∷ bits) h = not_both (eqb bit x) (begins xs bits) (λ _. too_short xs bits (omega arith))

none_in_few : (bits : List ℕ) → length bits < 5 → behind_header bits ≡ nowhere
unfolding behind_header
none_in_few [] h = refl
none_in_few (bit ∷ bits) h = rw (too_short header (bit ∷ bits) h) (none_in_few bits (omega arith))

-- Ahead of the header, with so many bits expected, or with its last bit.
abbrev hunting : ℕ → ℕ → Bool → Reception
hunting n window found = record { total = 8 * n; window = window; found = found; group = 0; cycles = 0 }

-- What is said of a window and the bits that come is what is said of the window's last four bits and those.
abbrev Said : ℕ → List ℕ → ℕ → List ℕ → Type 0
Said n buffer w bits = result_of (after_of (received (hunting n w false) buffer) bits) ≡ read_of n buffer (last_four w ++ bits)

-- One bit more, by whether the header ends with it.
module _ (n : ℕ) (buffer : List ℕ) (w bit : ℕ) (bits : List ℕ) (h : w < 32) (low : bit < 2) (b : T (binary bits))
    (rest : Said n buffer (shifted 5 w bit) bits) where
  taken : (found : Bool) → result_of (after_of (received (hunting n (shifted 5 w bit) found) buffer) bits)
      ≡ result_by n buffer (cond found (behind bits) (behind_header (w / 4 % 2 ∷ w / 2 % 2 ∷ w % 2 ∷ bit ∷ bits)))
  taken true = data_read n (shifted 5 w bit) buffer bits b
  taken false = rest ∙ ap (λ (four : List ℕ). read_of n buffer (four ++ bits)) (sym (moved w bit h low))

  bit_said : Said n buffer w (bit ∷ bits)
  unfolding after_of behind_header
  bit_said = rw (header_here w bit bits h low) (taken (eqb (shifted 5 w bit) 0b11101))

hunt_read : (bits : List ℕ) (n w : ℕ) (buffer : List ℕ) → w < 32 → T (binary bits) → Said n buffer w bits
unfolding after_of
hunt_read [] n w buffer h b = ap (result_by n buffer) (sym (none_in_few (last_four w) (omega arith)))
hunt_read (bit ∷ bits) n w buffer h b =
    let low = ltb→lt bit 2 (and_left (ltb bit 2) (binary bits) b) in
    let rest = and_right (ltb bit 2) (binary bits) b in
    bit_said n buffer w bit bits h low rest (hunt_read bits n (shifted 5 w bit) buffer (shifted_fits 5 w bit) rest)

-- From the start on: zeros ahead of the first bit make no header.
pub from_start : (n : ℕ) (buffer bits : List ℕ) → T (binary bits) → result_of (after_of (received (start n) buffer) bits) ≡ read_of n buffer bits
unfolding behind_header
from_start n buffer bits b = hunt_read bits n 0 buffer (omega arith) b
