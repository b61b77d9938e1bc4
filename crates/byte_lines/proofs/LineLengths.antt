-- How many bytes a line of bytes takes.
-- Assumes nothing.
use mathlib.Core.List.{List, [], ◌∷◌}
use mathlib.Core.Path.{◌≡◌, refl}
use Prim.Native.Nat.{ℕ, ◌+◌, ◌*◌}
use native.Mathlib.Omega.{arith}
use lib.ListN.{length, length-append}
use Rattle.hex_digits.specs.Digits.{characters_of}
use Rattle.byte_lines.specs.ByteLines.{byte_digits, frame_line, bytes_line}

bytes_length : (bs : List ℕ) → length (byte_digits bs) ≡ 2 * length bs
unfolding byte_digits characters_of
bytes_length [] = refl
bytes_length (b ∷ bs) = omega (arith, bytes_length bs)

pub frame_length : (bs : List ℕ) → length (frame_line bs) ≡ 2 * length bs + 2
frame_length bs = simp length-append (omega (arith, bytes_length bs))

pub bytes_line_length : (bs : List ℕ) → length (bytes_line bs) ≡ 2 * length bs + 1
bytes_line_length bs = simp length-append (omega (arith, bytes_length bs))
