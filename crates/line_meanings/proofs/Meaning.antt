-- A line read character by character means what the line's definition says.
-- Assumes nothing.
use mathlib.Core.Bool.{Bool, true, false, not, ◌&&◌, ◌||◌, or-false, or-true, and-false}
use mathlib.Core.List.{List, [], ◌∷◌, ◌++◌, append-nil}
use mathlib.Core.Logic.{⊎_elim}
use mathlib.Core.Path.{◌≡◌, refl, ap, ◌∙◌}
use Prim.Native.Nat.{ℕ, suc, ◌+◌, ◌*◌, ◌/◌, ◌%◌, ◌≤◌, ◌<◌, min}
use native.Mathlib.Nat.{add-zero, zero-add}
use native.Mathlib.Numerals.{add-one}
use native.Mathlib.Omega.{arith}
use lib.Dec.{ltb, leb, eqb, lit≤}
use lib.ListN.{length, get_or, set, take, length-set}
use lib.Seq.{sets, length-take-le, get_or-set_same, set-set, take-suc-set, append_snoc}
use borrow.Author.Tests.{lt-ltb, ltb-true, ltb-false, leb-true, leb-false, eqb-true}
use Rattle.std.specs.Prelude.{Result}
use Rattle.bits.proofs.Truth.{both, cases, choice}
use Rattle.line_meanings.specs.declared.LineFault.{LineFault}
use Rattle.line_meanings.specs.declared.LineNotes.{LineNotes}
use Rattle.line_meanings.specs.declared.LineSoFar.{LineSoFar}
use Rattle.line_meanings.specs.Digits.{is_digit, digit_of, all_digits, bytes_of}
use Rattle.line_meanings.specs.Line.{digit_limit, line_bytes, line_meaning, count_fits, hex_count, read_as, read_of}
use Rattle.line_meanings.specs.Notes.{with_note, with_notes}
use Rattle.line_meanings.specs.Lines.{empty_line, with_character, with_characters, answer_of, meaning_so_far, line_read, read_so_far}
use Rattle.line_meanings.proofs.Digits.{digit_range}

-- ---- whether there is a wrong character

wrong_next : (s : LineSoFar) (c : ℕ) → (with_character s c).wrong ≡ (s.wrong || not (is_digit c))
unfolding with_character
wrong_next s c =
    choice (λ (r : LineSoFar). r.wrong ≡ (s.wrong || not (is_digit c))) (is_digit c)
    (λ t. simp (t, or-false) (choice (λ (r : LineSoFar). r.wrong ≡ s.wrong) (ltb s.digits digit_limit) (λ l. refl) (λ l. refl)))
    (λ f. simp (f, or-true))

wrong_all : (s : LineSoFar) (line : List ℕ) → (with_characters s line).wrong ≡ (s.wrong || not (all_digits line))
unfolding with_characters
wrong_all s [] = rw or-false
wrong_all s (c ∷ cs) = wrong_all (with_character s c) cs ∙ rw wrong_next (join s.wrong (is_digit c) (all_digits cs))
  where
    join : (w a b : Bool) → (w || not a || not b) ≡ (w || not (a && b))
    join true a b = refl
    join false true b = refl
    join false false b = refl

-- ---- how many digits: beyond 64 they count as 65

abbrev too_many : ℕ
too_many = digit_limit + 1

module _ (s : LineSoFar) (c : ℕ) (e : is_digit c ≡ true) (low : s.digits ≤ too_many) where
  digits_next : (with_character s c).digits ≡ min (s.digits + 1) too_many
  unfolding with_character
  digits_next =
      simp e
      (choice (λ (r : LineSoFar). r.digits ≡ min (s.digits + 1) too_many) (ltb s.digits digit_limit)
      (λ t. let h = ltb-true s.digits digit_limit t in omega arith)
      (λ f. let h = ltb-false s.digits digit_limit f in omega arith))

digits_all : (s : LineSoFar) (line : List ℕ) → all_digits line ≡ true → s.digits ≤ too_many
    → (with_characters s line).digits ≡ min (s.digits + length line) too_many
unfolding with_characters
digits_all s [] e low = omega arith
digits_all s (c ∷ cs) e low =
    let d = both (is_digit c) (all_digits cs) e in
    let more = digits_next s c d.0 low in
    let all = digits_all (with_character s c) cs d.1 (omega arith) in
    omega arith

-- ---- the bytes, a pair of digits each

abbrev with_one_digit : LineSoFar → ℕ → LineSoFar
with_one_digit s c =
    let at = s.digits / 2 in
    record {
      wrong = s.wrong;
      digits = s.digits + 1;
      bytes = set s.bytes at (get_or s.bytes at 0 % 16 * 16 + digit_of c);
      notes = with_note s.notes c;
    }

one_digit : (s : LineSoFar) (c : ℕ) → is_digit c ≡ true → s.digits < digit_limit → with_character s c ≡ with_one_digit s c
unfolding with_character
one_digit s c e h = simp (e, lt-ltb s.digits digit_limit h)

-- what a byte was does not matter once it has both digits
two_digits : (bytes : List ℕ) (k x high low : ℕ) → k < length bytes → high < 16
    → let first = set bytes k (x % 16 * 16 + high) in set first k (get_or first k 0 % 16 * 16 + low) ≡ set bytes k (high * 16 + low)
two_digits bytes k x high low h d =
    rw (get_or-set_same bytes k (x % 16 * 16 + high) 0 h, set-set) (ap (λ (n : ℕ). set bytes k (n * 16 + low)) (omega arith))

digit_value : (c : ℕ) → is_digit c ≡ true → digit_of c < 16
digit_value c e = let d = digit_range c e in choice (λ (n : ℕ). n < 16) (leb c 57) (λ t. let h = leb-true c 57 t in omega arith) (λ f. omega arith)

-- the line with both digits of byte k
abbrev with_pair : LineSoFar → ℕ → ℕ → ℕ → LineSoFar
with_pair s k high low = record {
  wrong = s.wrong;
  digits = 2 * (k + 1);
  bytes = set s.bytes k (digit_of high * 16 + digit_of low);
  notes = with_note (with_note s.notes high) low;
}

module _ (s : LineSoFar) (k high low : ℕ) (even : s.digits ≡ 2 * k) (room : k < line_bytes) (long : length s.bytes ≡ line_bytes)
    (eh : is_digit high ≡ true) (el : is_digit low ≡ true) where
  pair : with_character (with_character s high) low ≡ with_pair s k high low
  pair =
      let half : s.digits / 2 ≡ k = omega arith in
      let half' : (s.digits + 1) / 2 ≡ k = omega arith in
      let count : s.digits + 1 + 1 ≡ 2 * (k + 1) = omega arith in
      ap (λ (r : LineSoFar). with_character r low) (one_digit s high eh (omega arith))
      ∙ one_digit (with_one_digit s high) low el (omega arith)
      ∙ (rw (half, half', count, two_digits s.bytes k _ (digit_of high) (digit_of low) (omega arith) (digit_value high eh)))

bytes_all : (s : LineSoFar) (k : ℕ) (line : List ℕ) → s.digits ≡ 2 * k → length s.bytes ≡ line_bytes → all_digits line ≡ true
    → k + length line / 2 ≤ line_bytes → length line % 2 ≡ 0 → take (k + length line / 2) (with_characters s line).bytes ≡ take k s.bytes ++ bytes_of line
unfolding with_characters
bytes_all s k [] even long e h p = rw (add-zero, append-nil)
bytes_all s k (high ∷ []) even long e h p = absurd (omega arith)
bytes_all s k (high ∷ low ∷ cs) even long e h p =
    let d = both (is_digit high) (is_digit low && all_digits cs) e in
    let d' = both (is_digit low) (all_digits cs) d.1 in
    let count : k + suc (suc (length cs)) / 2 ≡ k + 1 + length cs / 2 = omega arith in
    let v = digit_of high * 16 + digit_of low in
    ap (λ (q : LineSoFar). take (k + suc (suc (length cs)) / 2) (with_characters q cs).bytes) (pair s k high low even (omega arith) long d.0 d'.0)
    ∙ rw count
    (bytes_all (with_pair s k high low) (k + 1) cs refl (length-set s.bytes k v ∙ long) d'.1 (omega arith) (omega arith)
    ∙ rw (add-one k, take-suc-set s.bytes k v (omega arith), append_snoc))

-- ---- the whole line

-- a count above 64 is as unfit as 65
clipped : (n : ℕ) → count_fits (min n too_many) ≡ count_fits n
clipped n =
    ⊎_elim
    (λ t. let h = leb-true n digit_limit t in let e : min n too_many ≡ n = omega arith in ap count_fits e)
    (λ (f : leb n digit_limit ≡ false).
    let h = leb-false n digit_limit f in
    let e : min n too_many ≡ too_many = omega arith in
    simp (e, f, and-false))
    (cases (leb n digit_limit))

-- what decides of a line that is read whole
record WholeRead (s : LineSoFar) (line : List ℕ) : Type 0 where
  wrong : s.wrong ≡ not (all_digits line)
  digits : all_digits line ≡ true → s.digits ≡ min (length line) too_many
  bytes : all_digits line ≡ true → count_fits (length line) ≡ true → take (length line / 2) s.bytes ≡ bytes_of line

whole_means : (s : LineSoFar) (line : List ℕ) → WholeRead s line → meaning_so_far s ≡ line_meaning line
unfolding meaning_so_far answer_of line_meaning
whole_means s line w =
    ⊎_elim
    (λ (t : all_digits line ≡ true).
    ⊎_elim
    (λ (y : count_fits (length line) ≡ true).
    let h = leb-true (length line) digit_limit (both (eqb (length line % 2) 0) (leb (length line) digit_limit) y).1 in
    let d : s.digits ≡ length line = omega (arith, w.digits t) in
    simp (w.wrong, t, d, y, w.bytes t y))
    (λ (n : count_fits (length line) ≡ false). simp (w.wrong, t, ap count_fits (w.digits t) ∙ clipped (length line) ∙ n, n))
    (cases (count_fits (length line))))
    (λ (f : all_digits line ≡ false). simp (w.wrong, f))
    (cases (all_digits line))

whole_read : (line : List ℕ) → WholeRead (with_characters empty_line line) line
whole_read line = record {
  wrong = wrong_all empty_line line;
  digits = λ t. rw zero-add at (digits_all empty_line line t (lit≤ tt));
  bytes = λ t y.
      let f = both (eqb (length line % 2) 0) (leb (length line) digit_limit) y in
      let h = leb-true (length line) digit_limit f.1 in
      rw zero-add at (bytes_all empty_line 0 line refl refl t (omega arith) (eqb-true _ _ f.0));
}

line_means : (line : List ℕ) → meaning_so_far (with_characters empty_line line) ≡ line_meaning line
line_means line = whole_means (with_characters empty_line line) line (whole_read line)

-- ---- its notes

note_next : (s : LineSoFar) (c : ℕ) → (with_character s c).notes ≡ with_note s.notes c
unfolding with_character
note_next s c =
    let P : LineSoFar → Type 0 = λ r. r.notes ≡ with_note s.notes c in
    choice P (is_digit c) (λ t. choice P (ltb s.digits digit_limit) (λ l. refl) (λ l. refl)) (λ f. refl)

notes_all : (s : LineSoFar) (line : List ℕ) → (with_characters s line).notes ≡ with_notes s.notes line
unfolding with_characters with_notes
notes_all s [] = refl
notes_all s (c ∷ cs) = notes_all (with_character s c) cs ∙ ap (λ (n : LineNotes). with_notes n cs) (note_next s c)

pub line_read_whole : (line : List ℕ) → read_so_far (with_characters empty_line line) ≡ line_read line
line_read_whole line = λ i. record { meaning = line_means line i; notes = notes_all empty_line line i }

-- ---- a line read into a buffer

answer_short : (s : LineSoFar) → hex_count (answer_of s) ≤ line_bytes
unfolding answer_of
answer_short s =
    choice (λ (r : Result ℕ LineFault). hex_count r ≤ line_bytes) s.wrong
    (λ t. lit≤ tt)
    (λ f.
    choice (λ (r : Result ℕ LineFault). hex_count r ≤ line_bytes) (count_fits s.digits)
    (λ t. let h = leb-true s.digits digit_limit (both (eqb (s.digits % 2) 0) (leb s.digits digit_limit) t).1 in omega arith)
    (λ f. lit≤ tt))

pub same_buffer : (s : LineSoFar) (c : ℕ) → length (with_character s c).bytes ≡ length s.bytes
unfolding with_character
same_buffer s c =
    choice (λ (r : LineSoFar). length r.bytes ≡ length s.bytes) (is_digit c)
    (λ t. choice (λ (r : LineSoFar). length r.bytes ≡ length s.bytes) (ltb s.digits digit_limit) (λ l. length-set s.bytes _ _) (λ l. refl))
    (λ f. refl)

same_buffer_all : (s : LineSoFar) (cs : List ℕ) → length (with_characters s cs).bytes ≡ length s.bytes
unfolding with_characters
same_buffer_all s [] = refl
same_buffer_all s (c ∷ cs) = same_buffer_all (with_character s c) cs ∙ same_buffer s c

module _ (line : List ℕ) (s : LineSoFar) (all : s ≡ with_characters empty_line line) (r : Result ℕ LineFault) (answered : r ≡ answer_of s) where
  pub count_limit : hex_count r ≤ line_bytes
  count_limit = rw answered (answer_short s)

  pub count_within : hex_count r ≤ length s.bytes
  count_within = rw (ap (λ (q : LineSoFar). length q.bytes) all ∙ same_buffer_all empty_line line) count_limit

  pub bytes_count : length (take (hex_count r) s.bytes) ≡ hex_count r
  bytes_count = length-take-le (hex_count r) s.bytes count_within

  pub line_read_lem : (buffer : List ℕ) → read_as r (sets buffer 0 (take (hex_count r) s.bytes)) ≡ read_of line buffer
  unfolding read_of meaning_so_far
  line_read_lem buffer =
      let means : meaning_so_far s ≡ line_meaning line = rw all (line_means line) in
      rw (← means, ← answered, bytes_count)
