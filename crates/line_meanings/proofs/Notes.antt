-- A line with one more character, its notes kept apart: a wrong character, one digit too many, one digit more.
-- Assumes nothing.
use mathlib.Core.Bool.{Bool, true, false, cond}
use mathlib.Core.Path.{◌≡◌, refl}
use Prim.Native.Nat.{ℕ, ◌+◌, ◌*◌, ◌/◌, ◌%◌, ◌≤◌, ◌<◌}
use lib.Dec.{eqb}
use lib.ListN.{get_or, set}
use borrow.Author.Tests.{lt-ltb, le-ltb}
use Rattle.line_meanings.specs.declared.LineNotes.{LineNotes}
use Rattle.line_meanings.specs.declared.LineSoFar.{LineSoFar}
use Rattle.line_meanings.specs.Digits.{is_digit, digit_of}
use Rattle.line_meanings.specs.Line.{digit_limit}
use Rattle.line_meanings.specs.Notes.{one_longer, with_note}
use Rattle.line_meanings.specs.Lines.{with_character}

abbrev pub notes : ℕ → ℕ → ℕ → LineNotes
notes length place character = record { length = length; place = place; character = character }

-- A line with other notes.
abbrev pub noted : LineSoFar → ℕ → ℕ → ℕ → LineSoFar
noted s length place character = record { wrong = s.wrong; digits = s.digits; bytes = s.bytes; notes = notes length place character }

-- the notes with a character that is no digit, by whether it is the first
first_wrong : (n : LineNotes) (c : ℕ) (none : Bool) → eqb n.place 0 ≡ none → is_digit c ≡ false
    → notes (one_longer n) (cond none (one_longer n) n.place) (cond none c n.character) ≡ with_note n c
unfolding with_note
first_wrong n c true e w = simp (e, w)
first_wrong n c false e w = simp (e, w)

module _ (s : LineSoFar) (c : ℕ) where
  pub wrong_character : is_digit c ≡ false → (length place first : ℕ) → length ≡ one_longer s.notes
      → place ≡ cond (eqb s.notes.place 0) length s.notes.place → first ≡ cond (eqb s.notes.place 0) c s.notes.character
      → record { wrong = true; digits = s.digits; bytes = s.bytes; notes = notes length place first } ≡ with_character s c
  unfolding with_character
  wrong_character w length place first l p f = rw (f, p, l, first_wrong s.notes c (eqb s.notes.place 0) refl w, w)

  module _ (d : is_digit c ≡ true) (length : ℕ) (l : length ≡ one_longer s.notes) where
    abbrev longer : LineNotes
    longer = notes length s.notes.place s.notes.character

    digit_note : longer ≡ with_note s.notes c
    unfolding with_note
    digit_note = simp (d, l)

    pub too_many : digit_limit ≤ s.digits
        → record { wrong = s.wrong; digits = digit_limit + 1; bytes = s.bytes; notes = longer } ≡ with_character s c
    unfolding with_character
    too_many h = rw (digit_note) (simp (d, le-ltb s.digits digit_limit h))

    pub one_more : s.digits < digit_limit → let at = s.digits / 2 in
        record {
          wrong = s.wrong;
          digits = s.digits + 1;
          bytes = set s.bytes at (get_or s.bytes at 0 % 16 * 16 + digit_of c);
          notes = longer;
        } ≡ with_character s c
    unfolding with_character
    one_more h = rw (digit_note) (simp (d, lt-ltb s.digits digit_limit h))
