-- The hexadecimal lines of a stream, line by line, and part by part.
-- Assumes nothing.
use mathlib.Core.Bool.{Bool, true, false, cond, ◌||◌}
use mathlib.Core.List.{List, [], ◌∷◌, ◌++◌, append_assoc}
use mathlib.Core.Logic.{◌⊎◌, inl, inr, ⊎_elim}
use mathlib.Core.Path.{◌≡◌, ◌∙◌, refl, sym, ap}
use Prim.Native.Nat.{ℕ, zero, suc, ◌+◌, ◌*◌, ◌≤◌, ◌<◌, min}
use native.Mathlib.Omega.{arith}
use lib.Dec.{eqb}
use lib.ListN.{length, take, drop, length-append, length-drop, take-append-drop}
use lib.Seq.{length-take-le}
use borrow.Author.Tests.{eq-eqb, ne_eqb, eqb-true}
use Rattle.bits.proofs.Truth.{or_right}
use Rattle.output.specs.Ascii.{line_feed}
use Rattle.line_meanings.specs.Lines.{is_empty}
use Rattle.hex_digits.specs.Digits.{characters_of}
use Rattle.byte_lines.specs.ByteLines.{byte_digits, bytes_line}
use Rattle.hex_digits.proofs.Digits.{digits_length}
use Rattle.stream_lines.specs.StreamLines.{lines_from, stream_text, part_limit}

-- A line of bytes, behind n others: as many as make 32, or all that are left.
abbrev Ends : ℕ → List ℕ → Type 0
Ends n rest = (n ≡ 32) ⊎ (rest ≡ [])

line_text : (n b : ℕ) (line rest : List ℕ) → n + suc (length line) ≤ 32 → Ends (n + suc (length line)) rest
    → lines_from n (b ∷ (line ++ rest)) ≡ bytes_line (b ∷ line) ++ lines_from 0 rest
unfolding lines_from byte_digits
line_text n b [] rest h e =
    let ended : (is_empty rest || eqb n 31) ≡ true = ⊎_elim (λ m. or_right (is_empty rest) (eqb n 31) (eq-eqb n 31 (omega arith))) (λ z. rw z) e in
    rw ended (simp append_assoc)
line_text n b (d ∷ line) rest h e =
    let next : n + 1 + suc (length line) ≡ n + suc (suc (length line)) = omega arith in
    rw (ne_eqb n 31 (λ z. omega arith))
    (ap (λ (l : List ℕ). characters_of b 2 ++ l) (line_text (n + 1) d line rest (omega arith) (rw next e)) ∙ simp append_assoc)

part_text : (line rest : List ℕ) → 0 < length line → length line ≤ 32 → Ends (length line) rest → stream_text (line ++ rest) ≡ bytes_line line ++ stream_text rest
part_text [] rest s h e = absurd (omega arith)
part_text (b ∷ line) rest s h e = let z : 0 + suc (length line) ≡ suc (length line) = omega arith in line_text 0 b line rest (omega arith) (rw z e)

-- The next line, and what is left behind it.
ends : (line rest : List ℕ) → length line ≡ min 32 (length (line ++ rest)) → Ends (length line) rest
ends line [] e = inr refl
ends line (b ∷ rest) e = inl (omega (arith, e, length-append line (b ∷ rest)))

pub next_line : (line rest : List ℕ) → length line ≡ min 32 (length (line ++ rest)) → 0 < length (line ++ rest)
    → stream_text (line ++ rest) ≡ bytes_line line ++ stream_text rest
next_line line rest e h = part_text line rest (omega arith) (omega arith) (ends line rest e)

-- How long the text is.
line_feed_paid : (n : ℕ) (bytes : List ℕ) → (is_empty bytes || eqb n 31) ≡ true → 32 * length (lines_from 0 bytes) ≤ 65 * length bytes + 0 + 31
    → 32 * length (lines_from 0 bytes) ≤ 65 * length bytes + n
unfolding lines_from
line_feed_paid n [] e h = omega arith
line_feed_paid n (b ∷ bs) e h = omega (arith, eqb-true n 31 e, h)

more_text : (n b : ℕ) (bs : List ℕ) (t : Bool) → (is_empty bs || eqb n 31) ≡ t → 32 * length (lines_from 0 bs) ≤ 65 * length bs + 0 + 31
    → 32 * length (lines_from (n + 1) bs) ≤ 65 * length bs + (n + 1) + 31
    → 32 * length (characters_of b 2 ++ cond t (line_feed ∷ lines_from 0 bs) (lines_from (n + 1) bs)) ≤ 65 * suc (length bs) + n + 31
more_text n b bs true e f g = rw length-append (omega (arith, digits_length b 2, line_feed_paid n bs e f))
more_text n b bs false e f g = rw length-append (omega (arith, digits_length b 2, g))

text_length : (n : ℕ) (bytes : List ℕ) → 32 * length (lines_from n bytes) ≤ 65 * length bytes + n + 31
unfolding lines_from
text_length n [] = omega arith
text_length n (b ∷ bs) = more_text n b bs (is_empty bs || eqb n 31) refl (text_length 0 bs) (text_length (n + 1) bs)

pub part_short : (bytes : List ℕ) → length bytes ≤ part_limit → length (stream_text bytes) ≤ 65536
part_short bytes h = omega (arith, text_length 0 bytes)

-- Parts of whole lines, one after the other, make up the whole text.
pub parts_join : (k : ℕ) (bytes rest : List ℕ) → length bytes ≡ 32 * k → stream_text (bytes ++ rest) ≡ stream_text bytes ++ stream_text rest
unfolding lines_from
parts_join zero [] rest e = refl
parts_join zero (b ∷ bs) rest e = absurd (omega arith)
parts_join (suc k) bytes rest e =
    let line = take 32 bytes in
    let later = drop 32 bytes in
    let size : length line ≡ 32 = length-take-le 32 bytes (omega arith) in
    let split : bytes ≡ line ++ later = sym (take-append-drop 32 bytes) in
    let here : stream_text bytes ≡ bytes_line line ++ stream_text later =
    ap stream_text split ∙ part_text line later (omega (arith, size)) (omega (arith, size)) (inl size) in
    let on : stream_text (bytes ++ rest) ≡ bytes_line line ++ stream_text (later ++ rest) =
    ap (λ (l : List ℕ). stream_text (l ++ rest)) split
    ∙ ap stream_text (append_assoc line later rest)
    ∙ part_text line (later ++ rest) (omega (arith, size)) (omega (arith, size)) (inl size) in
    on ∙ ap (λ (l : List ℕ). bytes_line line ++ l) (parts_join k later rest (omega (arith, length-drop 32 bytes)))
    ∙ sym (append_assoc (bytes_line line) (stream_text later) (stream_text rest))
    ∙ ap (λ (l : List ℕ). l ++ stream_text rest) (sym here)
