-- The pieces that lines of numbers are put in: one number with its separator.
-- Assumes nothing.
use mathlib.Core.Bool.{cond}
use mathlib.Core.List.{List, [], ◌∷◌, ◌++◌, map}
use mathlib.Core.Path.{◌≡◌, refl}
use Prim.Native.Nat.{ℕ, zero, suc, ◌+◌, ◌≤◌, ◌<◌}
use native.Mathlib.Nat.{le_of_suc-le-suc, not-suc-le-zero, add_assoc}
use native.Mathlib.Numerals.{add-one}
use native.Mathlib.Omega.{arith}
use lib.Dec.{eqb, eqb-zero-suc, eqb-suc-suc}
use lib.ListN.{length, set, get_or, drop, length-append}
use lib.Seq.{sets, drop-cons, append_snoc}
use Rattle.output.specs.Ascii.{line_feed}
use Rattle.output.specs.Block.{block, put_all}
use Rattle.output.proofs.Pieces.{PartlyPut, next_fits, next_put, sets_append}
use Rattle.hex_digits.specs.Digits.{characters_of}
use Rattle.hex_digits.proofs.Digits.{digits_length}
use Rattle.number_lines.specs.NumberLines.{space, separator_after, numbers_line, fields_text}

-- A separator after a number.
pub digits_then_separator : (out : List ℕ) (at n width separator : ℕ)
    → block (set (sets out at (characters_of n width)) (at + width) separator) (at + width + 1) ≡ put_all out at (characters_of n width ++ (separator ∷ []))
digits_then_separator out at n width separator = rw (sets_append, length-append, digits_length, add_assoc)

-- A number's separator is decided by whether it is the last.
separator_at : (fs : List (ℕ × ℕ)) (i : ℕ) → i ≤ length fs
    → separator_after (map (λ (f : ℕ × ℕ). f.0) (drop i fs)) ≡ cond (eqb i (length fs)) line_feed space
separator_at [] zero h = refl
separator_at [] (suc i) h = absurd (not-suc-le-zero h)
separator_at (f ∷ fs) zero h = rw eqb-zero-suc
separator_at (f ∷ fs) (suc i) h = rw eqb-suc-suc (separator_at fs i (le_of_suc-le-suc h))

abbrev pub field_text : ℕ × ℕ → ℕ → List ℕ
field_text field separator = characters_of field.0 field.1 ++ (separator ∷ [])

module _ (fields : List (ℕ × ℕ)) (i : ℕ) (d : ℕ × ℕ) (h : i < length fields) where
  abbrev text : List ℕ
  text = field_text (get_or fields i d) (cond (eqb (i + 1) (length fields)) line_feed space)

  field_next : fields_text (drop i fields) ≡ text ++ fields_text (drop (i + 1) fields)
  unfolding numbers_line
  field_next = rw (add-one i, drop-cons fields i d h, ← separator_at fields (suc i) h, append_snoc)

  module _ {out₀ : List ℕ} {at : ℕ} {whole out : List ℕ} {place : ℕ} (l : PartlyPut out₀ at whole out place (fields_text (drop i fields))) where
    pub field_fits : place + (get_or fields i d).1 < length out
    field_fits = omega (arith, simp (length-append, digits_length) at (next_fits l text _ field_next))

    pub field_put : (out' : List ℕ) (place' : ℕ) → block out' place' ≡ put_all out place text
        → PartlyPut out₀ at whole out' place' (fields_text (drop (i + 1) fields))
    field_put = next_put l text _ field_next
