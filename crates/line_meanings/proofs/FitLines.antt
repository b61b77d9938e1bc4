-- A line that is not refused: its digits, and its bits.
-- Assumes nothing.
use mathlib.Core.List.{List}
use mathlib.Core.Path.{◌≡◌, refl, ap, ◌∙◌}
use Prim.Native.Nat.{ℕ, zero, suc, ◌+◌, ◌*◌, ◌/◌, ◌%◌, ◌≤◌}
use native.Mathlib.Omega.{arith}
use lib.Dec.{leb, eqb}
use lib.ListN.{length, take}
use lib.Seq.{length-take-le, get_or-take}
use borrow.Author.Tests.{leb-true, eqb-true}
use Rattle.std.specs.Prelude.{Result, Ok, Err}
use Rattle.bits.specs.Bits.{bits_of}
use Rattle.bits.proofs.Truth.{both, choice}
use Rattle.line_meanings.specs.declared.LineFault.{LineFault}
use Rattle.line_meanings.specs.declared.LineFault.TheVariants.{WrongCharacter, WrongLength}
use Rattle.line_meanings.specs.declared.LineSoFar.{LineSoFar}
use Rattle.line_meanings.specs.Line.{digit_limit, line_bytes, count_fits, fault_number, hex_number, hex_count}
use Rattle.line_meanings.specs.Lines.{answer_of, meaning_so_far}

-- A refusal has a number.
pub refused_numbered : (fault : LineFault) → fault_number fault ≡ 0 → ⊥
refused_numbered WrongCharacter e = absurd (omega arith)
refused_numbered WrongLength e = absurd (omega arith)

-- An answer that is no refusal.
pub not_refused : (r : Result ℕ LineFault) → ((fault : LineFault) → r ≡ Err fault → ⊥) → hex_number r ≡ 0
not_refused (Ok count) n = refl
not_refused (Err fault) n = absurd (n fault refl)

-- What a line that is not refused has.
pub record LineFits (s : LineSoFar) : Type 0 where
  pub few : s.digits ≤ digit_limit
  pub even : s.digits % 2 ≡ 0
  pub half : hex_count (answer_of s) ≡ s.digits / 2

abbrev Counted : LineSoFar → Result ℕ LineFault → Type 0
Counted s r = hex_number r ≡ 0 → (s.digits ≤ digit_limit) × (s.digits % 2 ≡ 0) × (hex_count r ≡ s.digits / 2)

pub line_fits : (s : LineSoFar) → hex_number (answer_of s) ≡ 0 → LineFits s
unfolding answer_of
line_fits s e =
    let f : Counted s (answer_of s) =
    choice (Counted s) s.wrong (λ _ z. absurd (omega arith))
    (λ _. choice (Counted s) (count_fits s.digits)
    (λ t _. let p = both (eqb (s.digits % 2) 0) (leb s.digits digit_limit) t in (leb-true _ _ p.1, eqb-true _ _ p.0, refl))
    (λ _ z. absurd (omega arith)))
    in
    let p = f e in
    record { few = p.0; even = p.1; half = p.2 }

-- Bits of the first bytes.
take_bits : (s : List ℕ) (n place count : ℕ) → place + count ≤ 8 * n → bits_of (take n s) place count ≡ bits_of s place count
take_bits s n place zero h = refl
take_bits s n place (suc count) h =
    rw (get_or-take n s (place / 8) 0 (omega arith), take_bits s n (place + 1) count (omega arith))

-- The bits of a line that is not refused, as its bytes have them.
pub fitting_bits : (s : LineSoFar) → LineFits s → length s.bytes ≡ line_bytes → let bytes = (meaning_so_far s).bytes in
    bits_of bytes 0 (8 * length bytes) ≡ bits_of s.bytes 0 (4 * s.digits)
unfolding meaning_so_far
fitting_bits s f bytes =
    let n = s.digits / 2 in
    let long : length (take n s.bytes) ≡ n = length-take-le n s.bytes (omega (arith, f.few)) in
    let eight : 8 * n ≡ 4 * s.digits = omega (arith, f.even) in
    rw (f.half, long) (take_bits s.bytes n 0 (8 * n) (omega arith) ∙ ap (bits_of s.bytes 0) eight)
