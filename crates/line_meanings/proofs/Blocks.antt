-- The input's lines, wherever it is cut into blocks: what is scanned of it is what its lines are.
-- Assumes nothing.
use mathlib.Core.Bool.{true, false, cond, not, and-false}
use mathlib.Core.List.{List, [], ◌∷◌, ◌++◌}
use mathlib.Core.Path.{◌≡◌, refl, ap, ◌∙◌}
use Prim.Native.Nat.{ℕ, suc, ◌+◌, ◌-◌, ◌≤◌, ◌<◌, zero-le, suc-le-suc}
use native.Mathlib.Nat.{add-zero, add-sub_cancel_left}
use native.Mathlib.Numerals.{add-one}
use native.Mathlib.Omega.{arith}
use lib.Dec.{ltb, eqb, leb-suc-suc, eqb-suc-zero}
use lib.ListN.{length, get_or, take, drop, length-drop, drop_of_length-le}
use lib.Seq.{drop-cons, drop-drop}
use borrow.Author.Tests.{ltb-true, ltb-false, lt-ltb, le-ltb, eq-eqb, ne_eqb}
use Rattle.bits.proofs.Truth.{choice, choice_under}
use Rattle.output.specs.Ascii.{line_feed}
use Rattle.line_meanings.specs.declared.LineSoFar.{LineSoFar}
use Rattle.line_meanings.specs.declared.Scanned.{Scanned}
use Rattle.line_meanings.specs.Digits.{is_digit}
use Rattle.line_meanings.specs.Line.{digit_limit}
use Rattle.line_meanings.specs.Lines.{is_empty, lines_from, lines_of, LineRead, lines_read, empty_line, with_character, with_characters, no_characters}
use Rattle.line_meanings.specs.Lines.{up_to_line_feed, scan_of, read_so_far, read_from}
use Rattle.line_meanings.proofs.Meaning.{line_read_whole}

-- ---- a line that is cut

characters_append : (s : LineSoFar) (a b : List ℕ) → with_characters s (a ++ b) ≡ with_characters (with_characters s a) b
unfolding with_characters
characters_append s [] b = refl
characters_append s (c ∷ a) b = characters_append (with_character s c) a b

-- ---- whether there are characters

some_character : (s : LineSoFar) (c : ℕ) → no_characters (with_character s c) ≡ false
unfolding with_character
some_character s c =
    choice (λ (r : LineSoFar). no_characters r ≡ false) (is_digit c)
    (λ t.
    choice (λ (r : LineSoFar). no_characters r ≡ false) (ltb s.digits digit_limit)
    (λ l. rw (add-one, eqb-suc-zero) (and-false (not s.wrong)))
    (λ l. and-false (not s.wrong)))
    (λ f. refl)

some_characters : (s : LineSoFar) (c : ℕ) (cs : List ℕ) → no_characters (with_characters s (c ∷ cs)) ≡ false
unfolding with_characters
some_characters s c [] = some_character s c
some_characters s c (d ∷ cs) = some_characters (with_character s c) d cs

pub no_characters_lem : (line : List ℕ) → no_characters (with_characters empty_line line) ≡ is_empty line
unfolding with_characters
no_characters_lem [] = refl
no_characters_lem (c ∷ cs) = some_characters empty_line c cs

-- ---- the lines of an input

lines_from_lem : (line cs : List ℕ) → read_from (with_characters empty_line line) cs ≡ lines_read (lines_from line cs)
unfolding read_from lines_from lines_read with_characters
lines_from_lem line [] = rw (no_characters_lem line, line_read_whole line) (choice_under lines_read (is_empty line) refl refl)
lines_from_lem line (c ∷ cs) =
    choice_under lines_read (eqb c line_feed)
    (rw (line_read_whole line, lines_from_lem [] cs))
    (rw (← characters_append empty_line line (c ∷ [])) (lines_from_lem (line ++ (c ∷ [])) cs))

pub lines : (input : List ℕ) → read_from empty_line input ≡ lines_read (lines_of input)
unfolding with_characters
lines input = lines_from_lem [] input

-- ---- the characters ahead of a line feed

pub ahead_short : (cs : List ℕ) → length (up_to_line_feed cs) ≤ length cs
unfolding up_to_line_feed
ahead_short [] = zero-le
ahead_short (c ∷ cs) = choice (λ (l : List ℕ). length l ≤ suc (length cs)) (eqb c line_feed) (λ t. zero-le) (λ f. suc-le-suc (ahead_short cs))

pub ahead_take : (cs : List ℕ) → take (length (up_to_line_feed cs)) cs ≡ up_to_line_feed cs
unfolding up_to_line_feed
ahead_take [] = refl
ahead_take (c ∷ cs) = choice (λ (l : List ℕ). take (length l) (c ∷ cs) ≡ l) (eqb c line_feed) (λ t. refl) (λ f. ap (λ (l : List ℕ). c ∷ l) (ahead_take cs))

-- by the character at a place
module _ (block : List ℕ) (at : ℕ) (h : at < length block) where
  pub ahead_none : get_or block at 0 ≡ line_feed → length (up_to_line_feed (drop at block)) ≡ 0
  unfolding up_to_line_feed
  ahead_none e = simp (drop-cons block at 0 h, eq-eqb (get_or block at 0) line_feed e)

  pub ahead_more : (get_or block at 0 ≡ line_feed → ⊥) → length (up_to_line_feed (drop at block)) ≡ 1 + length (up_to_line_feed (drop (at + 1) block))
  unfolding up_to_line_feed
  ahead_more n = simp (drop-cons block at 0 h, ne_eqb (get_or block at 0) line_feed n, add-one) (omega arith)

pub ahead_end : (block : List ℕ) (at : ℕ) → length block ≤ at → length (up_to_line_feed (drop at block)) ≡ 0
unfolding up_to_line_feed
ahead_end block at h = simp (drop_of_length-le block h)

-- what the characters mean, cut after those ahead of the line feed
abbrev cut_after : LineSoFar → List ℕ → List ℕ → List ℕ → List LineRead
cut_after s ahead cs rest =
    let line = with_characters s ahead in
    cond (ltb (length ahead) (length cs)) (read_so_far line ∷ read_from empty_line (drop (suc (length ahead)) cs ++ rest)) (read_from line rest)

scan_splits : (s : LineSoFar) (cs rest : List ℕ) → read_from s (cs ++ rest) ≡ cut_after s (up_to_line_feed cs) cs rest
unfolding read_from with_characters up_to_line_feed
scan_splits s [] rest = refl
scan_splits s (c ∷ cs) rest =
    choice_under (λ (l : List ℕ). cut_after s l (c ∷ cs) rest) (eqb c line_feed)
    (simp (lt-ltb 0 (suc (length cs)) (suc-le-suc zero-le)))
    (rw leb-suc-suc (scan_splits (with_character s c) cs rest))

-- ---- a block that is scanned

module _ (s : LineSoFar) (block : List ℕ) (at : ℕ) where
  abbrev ahead : List ℕ
  ahead = up_to_line_feed (drop at block)

  abbrev scan : Scanned
  scan = scan_of s block at

  module _ (rest : List ℕ) where
    pub scan_complete : scan.complete ≡ true
        → read_from s (drop at block ++ rest) ≡ read_so_far scan.line ∷ read_from empty_line (drop scan.next block ++ rest)
    unfolding scan_of
    scan_complete e =
        let h = ltb-true (at + length ahead) (length block) e in
        let shorter = lt-ltb (length ahead) (length (drop at block)) (rw length-drop (omega arith)) in
        let next : at + length ahead + 1 ≡ at + suc (length ahead) = omega arith in
        scan_splits s (drop at block) rest ∙ simp (shorter, e, next, drop-drop)

    pub scan_incomplete : scan.complete ≡ false → read_from s (drop at block ++ rest) ≡ read_from scan.line rest
    unfolding scan_of
    scan_incomplete e =
        let h = ltb-false (at + length ahead) (length block) e in
        let longer = le-ltb (length ahead) (length (drop at block)) (rw length-drop (omega arith)) in
        scan_splits s (drop at block) rest ∙ simp longer

  pub scan_to_end : scan.complete ≡ false → drop scan.next block ≡ []
  unfolding scan_of
  scan_to_end e = rw (e, add-zero) (drop_of_length-le block (ltb-false (at + length ahead) (length block) e))

  -- by the place where the line ends
  module _ (end : ℕ) (line : LineSoFar) (e : end ≡ at + length ahead) (f : line ≡ with_characters s (take (end - at) (drop at block))) where
    whole_read : line ≡ with_characters s ahead
    whole_read = f ∙ rw (e, add-sub_cancel_left, ahead_take)

    pub scan_found : end < length block → record { line = line; next = end + 1; complete = true } ≡ scan
    unfolding scan_of
    scan_found h = simp (whole_read, e, lt-ltb (at + length ahead) (length block) (rw (← e) h))

    pub scan_missed : length block ≤ end → record { line = line; next = end; complete = false } ≡ scan
    unfolding scan_of
    scan_missed h = simp (whole_read, e, le-ltb (at + length ahead) (length block) (rw (← e) h), add-zero)

  -- what a program that scans a block goes by: the next place stays within the block, and is past the last
  pub scan_within : at ≤ length block → scan.next ≤ length block
  unfolding scan_of
  scan_within h =
      let short = ahead_short (drop at block) in
      choice (λ (k : ℕ). at + length ahead + k ≤ length block) (ltb (at + length ahead) (length block))
      (λ t. let l = ltb-true (at + length ahead) (length block) t in omega arith)
      (λ f. omega (arith, length-drop at block))

  pub scan_advances : at < length block → at < scan.next
  unfolding scan_of
  scan_advances h =
      choice (λ (k : ℕ). at < at + length ahead + k) (ltb (at + length ahead) (length block))
      (λ t. omega arith)
      (λ f. let l = ltb-false (at + length ahead) (length block) f in omega arith)
