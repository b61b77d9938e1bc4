-- A frame's bits in a text: digits, and how many of their bits (ours, as the words are).
-- Assumes nothing.
use Rattle.std.specs.Prelude.{Bool, true, false, cond, ◌&&◌, List, [], ◌∷◌, ◌≡◌, ℕ, ◌+◌, ◌*◌, ◌%◌, ◌≤◌, Option, Some, None, IfSome, ltb, leb, eqb, length, take}
use Prim.Native.Char.{code}
use Rattle.text_words.specs.Words.{up_to}
use Rattle.text_numbers.specs.Numbers.{digit_of, decimal, passing}
use Rattle.text_frames.specs.declared.FrameRead.{FrameRead}

-- The bytes that the digits of a line's frame fill, at most.
abbrev pub frame_limit : ℕ
frame_limit = 16384

-- The digits of a frame's word, those ahead of a `:`; and the bits that it says: those that a decimal number behind the `:` says, without one those of all
-- its digits, four each.
abbrev pub up_to_colon : List ℕ → List ℕ
up_to_colon word = up_to (code ":") word

unfoldable pub bits_said : ℕ → List ℕ → Option ℕ
bits_said digits [] = Some (4 * digits)
bits_said digits (c ∷ cs) = cond (eqb c (code ":")) (decimal cs) (bits_said (digits + 1) cs)

abbrev pub are_digits : List ℕ → Bool
are_digits [] = true
are_digits (c ∷ cs) = ltb (digit_of c) 16 && are_digits cs

-- The first bit highest: bytes of two digits each. The last of an odd count of digits is the high half.
abbrev pub half : ℕ → ℕ
half c = digit_of c % 16

abbrev pub bytes_of : List ℕ → List ℕ
bytes_of [] = []
bytes_of (high ∷ []) = (half high * 16) ∷ []
bytes_of (high ∷ low ∷ cs) = (half high * 16 + half low) ∷ bytes_of cs

-- A frame as it is read: whether it is one, the count of its bits, its bytes.
pub record Frame : Type 0 where
  pub right : Bool
  pub bits : ℕ
  pub bytes : List ℕ

abbrev pub frame : Bool → ℕ → List ℕ → Frame
frame right bits bytes = record { right = right; bits = bits; bytes = bytes }

abbrev pub no_frame : Frame
no_frame = frame false 0 []

-- By the count of its bits, if it has one.
abbrev pub framed : List ℕ → Option ℕ → Frame
framed bytes None = no_frame
framed bytes (Some bits) = frame true bits bytes

-- Digits that give fewer bits than the count are no frame.
unfoldable pub frame_of : List ℕ → Frame
frame_of word =
    let digits = up_to_colon word in
    cond (are_digits digits) (framed (bytes_of digits) (passing (λ bits. leb bits (4 * length digits)) (bits_said 0 word))) no_frame

-- A frame as a call reads it, with the bytes that it then lends.
abbrev pub lent_frame : Option FrameRead → List ℕ → Frame
lent_frame None buffer = no_frame
lent_frame (Some r) buffer = frame true r.bits (take r.bytes buffer)

pub record FrameAs (r : Option FrameRead) (buffer : List ℕ) (f : Frame) : Type 0 where
  pub same : lent_frame r buffer ≡ f
  pub within : IfSome r (λ x. x.bytes ≤ length buffer)
