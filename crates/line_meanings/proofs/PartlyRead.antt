-- The invariant of the loop that reads a line: the characters that are left, read from here on, give what all of them give.
-- Assumes nothing.
use mathlib.Core.List.{List}
use mathlib.Core.Path.{◌≡◌, refl, ◌∙◌, ap}
use Prim.Native.Nat.{ℕ, ◌+◌, ◌≤◌, ◌<◌}
use native.Mathlib.Numerals.{add-one}
use native.Mathlib.Omega.{arith}
use lib.ListN.{length, get_or, drop, drop_of_length-le}
use lib.Seq.{drop-cons}
use Rattle.line_meanings.specs.declared.LineSoFar.{LineSoFar}
use Rattle.line_meanings.specs.Line.{line_bytes}
use Rattle.line_meanings.specs.Lines.{with_character, with_characters}
use Rattle.line_meanings.proofs.Meaning.{same_buffer}

pub record PartlyRead (characters : List ℕ) (line₀ line : LineSoFar) (i : ℕ) : Type 0 where
  pub low : i ≤ length characters
  pub long : length line.bytes ≡ line_bytes
  pub all : with_characters line (drop i characters) ≡ with_characters line₀ characters

pub none_read : (characters : List ℕ) (line : LineSoFar) → length line.bytes ≡ line_bytes → PartlyRead characters line line 0
none_read characters line h = record { low = omega arith; long = h; all = refl }

module _ {characters : List ℕ} {line₀ line : LineSoFar} {i : ℕ} (s : PartlyRead characters line₀ line i) where
  pub next_read : i < length characters → (line' : LineSoFar) → line' ≡ with_character line (get_or characters i 0) → PartlyRead characters line₀ line' (i + 1)
  unfolding with_characters
  next_read h line' e = record {
    low = omega arith;
    long = ap (λ (q : LineSoFar). length q.bytes) e ∙ same_buffer line (get_or characters i 0) ∙ s.long;
    all = rw (add-one i, e) (rw (drop-cons characters i 0 h) at s.all);
  }

  pub all_read : length characters ≤ i → line ≡ with_characters line₀ characters
  unfolding with_characters
  all_read h = rw (drop_of_length-le characters h) at s.all
