-- The pieces that lines of bytes are put in: one byte's digits.
-- Assumes nothing.
use mathlib.Core.List.{List, ◌++◌}
use mathlib.Core.Path.{◌≡◌}
use Prim.Native.Nat.{ℕ, ◌+◌, ◌≤◌, ◌<◌}
use native.Mathlib.Numerals.{add-one}
use lib.ListN.{length, get_or, drop}
use lib.Seq.{sets, drop-cons}
use Rattle.output.proofs.Pieces.{PartlyPut, next_fits, next_put}
use Rattle.hex_digits.specs.Digits.{characters_of}
use Rattle.hex_digits.proofs.Digits.{digits_length}
use Rattle.byte_lines.specs.ByteLines.{byte_digits}

module _ (bs : List ℕ) (i : ℕ) (h : i < length bs) where
  byte_next : byte_digits (drop i bs) ≡ characters_of (get_or bs i 0) 2 ++ byte_digits (drop (i + 1) bs)
  unfolding byte_digits
  byte_next = rw (add-one i, drop-cons bs i 0 h)

  module _ {out₀ : List ℕ} {at : ℕ} {whole out : List ℕ} {place : ℕ} (l : PartlyPut out₀ at whole out place (byte_digits (drop i bs))) where
    pub byte_fits : place + 2 ≤ length out
    byte_fits = rw digits_length at (next_fits l (characters_of (get_or bs i 0) 2) _ byte_next)

    pub byte_put : (out' : List ℕ) → out' ≡ sets out place (characters_of (get_or bs i 0) 2)
        → PartlyPut out₀ at whole out' (place + 2) (byte_digits (drop (i + 1) bs))
    byte_put out' e = next_put l (characters_of (get_or bs i 0) 2) _ byte_next out' (place + 2) (rw (e, digits_length))
