-- A frame's word: its digits and their bytes, and the bits that it says.
-- Assumes nothing.
use mathlib.Core.Bool.{Bool, true, false, cond, ◌&&◌}
use mathlib.Core.List.{List, [], ◌∷◌}
use mathlib.Core.Path.{◌≡◌, ◌∙◌, refl, ap}
use Prim.Native.Char.{code}
use Prim.Native.Nat.{ℕ, suc, ◌+◌, ◌*◌, ◌≤◌, ◌<◌}
use native.Mathlib.Nat.{add-zero, zero-add}
use native.Mathlib.Numerals.{add-one}
use native.Mathlib.Omega.{arith}
use lib.Dec.{ltb, leb, eqb, leb-suc-suc}
use lib.ListN.{length, get_or, drop, drop_of_length-le, length-drop}
use lib.Seq.{get_or-drop, drop-drop}
use borrow.Author.Tests.{lt-ltb, le-ltb}
use Rattle.std.proofs.Common.{Option, Some, None}
use Rattle.std.specs.List.{list_all}
use Rattle.bits.proofs.Truth.{choice_under}
use Rattle.output.specs.Block.{block, put_all}
use Rattle.output.proofs.Pieces.{put_prefix, put_end_within}
use Rattle.text_words.specs.Words.{up_to}
use Rattle.text_numbers.specs.Numbers.{digit_of, decimal, passing}
use Rattle.text_frames.specs.Frames.{Frame, frame, no_frame, up_to_colon, bits_said, are_digits, half, bytes_of, framed, frame_of, FrameAs}
use Rattle.text_frames.specs.declared.FrameRead.{FrameRead}

-- ---- the digits

pub digits_all : (word : List ℕ) → list_all (λ c. ltb (digit_of c) 16) word ≡ are_digits word
digits_all [] = refl
digits_all (c ∷ cs) = ap (λ (t : Bool). ltb (digit_of c) 16 && t) (digits_all cs)

-- ---- the bits that it says: behind a colon, or by the digits

abbrev said_by : ℕ → List ℕ → List ℕ → Option ℕ
said_by before ahead word = cond (ltb (length ahead) (length word)) (decimal (drop (suc (length ahead)) word)) (Some (4 * (before + length ahead)))

said_by_lem : (before : ℕ) (word : List ℕ) → bits_said before word ≡ said_by before (up_to_colon word) word
unfolding bits_said up_to
said_by_lem before [] = rw add-zero
said_by_lem before (c ∷ cs) =
    let more : before + 1 + length (up_to_colon cs) ≡ before + suc (length (up_to_colon cs)) = omega arith in
    choice_under (λ (l : List ℕ). said_by before l (c ∷ cs)) (eqb c (code ":")) (simp (lt-ltb 0 (suc (length cs)) (omega arith)))
    (said_by_lem (before + 1) cs ∙ rw (leb-suc-suc, more))

module _ (word : List ℕ) (n : ℕ) (e : n ≡ length (up_to_colon word)) where
  pub said_behind : n < length word → bits_said 0 word ≡ decimal (drop (n + 1) word)
  said_behind h = said_by_lem 0 word ∙ rw (← e, add-one) (simp (lt-ltb n (length word) h))

  pub said_by_digits : length word ≤ n → bits_said 0 word ≡ Some (4 * n)
  said_by_digits h = said_by_lem 0 word ∙ rw (← e) (simp (le-ltb n (length word) h, zero-add))

-- ---- the bytes

pub bytes_few : (digits : List ℕ) → 2 * length (bytes_of digits) ≤ length digits + 1
bytes_few [] = omega arith
bytes_few (high ∷ []) = omega arith
bytes_few (high ∷ low ∷ cs) = omega (arith, bytes_few cs)

bytes_cons : (digits : List ℕ) → 0 < length digits
    → bytes_of digits ≡ (half (get_or digits 0 0) * 16 + half (get_or digits 1 0)) ∷ bytes_of (drop 2 digits)
bytes_cons [] h = absurd (omega arith)
bytes_cons (high ∷ []) h = rw add-zero
bytes_cons (high ∷ low ∷ cs) h = refl

pub bytes_next : (digits : List ℕ) (n : ℕ) → 2 * n < length digits
    → bytes_of (drop (2 * n) digits) ≡ (half (get_or digits (2 * n) 0) * 16 + half (get_or digits (2 * n + 1) 0)) ∷ bytes_of (drop (2 * (n + 1)) digits)
bytes_next digits n h =
    let next : 2 * (n + 1) ≡ 2 * n + 2 = omega arith in
    bytes_cons (drop (2 * n) digits) (omega (arith, length-drop (2 * n) digits))
    ∙ rw (get_or-drop (2 * n) digits 0 0, add-zero, get_or-drop, drop-drop, next)

pub bytes_done : (digits : List ℕ) (n : ℕ) → length digits ≤ 2 * n → bytes_of (drop (2 * n) digits) ≡ []
bytes_done digits n h = rw (drop_of_length-le digits {i = 2 * n} h)

-- ---- the whole word

module _ (word : List ℕ) where
  pub no_digits : are_digits (up_to_colon word) ≡ false → no_frame ≡ frame_of word
  unfolding frame_of
  no_digits e = simp e

  pub framed_told : are_digits (up_to_colon word) ≡ true → (bits kept : Option ℕ) (n : ℕ) → bits ≡ bits_said 0 word → n ≡ length (up_to_colon word)
      → kept ≡ passing (λ m. leb m (4 * n)) bits → framed (bytes_of (up_to_colon word)) kept ≡ frame_of word
  unfolding frame_of
  framed_told d bits kept n s m k = rw (d, ← s, ← m, k)

-- as a call reads it
pub frame_wrong : (r : Option FrameRead) (buffer : List ℕ) {f : Frame} → r ≡ None → no_frame ≡ f → FrameAs r buffer f
frame_wrong r buffer n e = rw n record { same = e; within = tt }

pub frame_put : (buffer digits out : List ℕ) (bits next : ℕ) {f : Frame} → block out next ≡ put_all buffer 0 (bytes_of digits)
    → length (bytes_of digits) ≤ length buffer → frame true bits (bytes_of digits) ≡ f → FrameAs (Some record { bits = bits; bytes = next }) out f
frame_put buffer digits out bits next e h same = record {
  same = ap (frame true bits) (put_prefix buffer (bytes_of digits) out 0 next e (omega arith)) ∙ same;
  within = put_end_within buffer (bytes_of digits) out 0 next e (omega arith);
}
