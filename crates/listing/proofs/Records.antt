-- The text of records: a record's line with its frame's, and the records of a taking call one by one.
-- Assumes nothing.
use mathlib.Core.Bool.{Bool}
use mathlib.Core.List.{List, [], ◌∷◌, ◌++◌, append-nil}
use mathlib.Core.Path.{◌≡◌, refl, sym, ◌∙◌}
use Prim.Native.Nat.{ℕ, suc, ◌+◌, ◌*◌, ◌/◌, ◌≤◌, ◌<◌}
use native.Mathlib.Numerals.{add-one}
use native.Mathlib.Omega.{arith}
use lib.ListN.{length, get_or, drop, length-drop}
use lib.Seq.{drop-cons}
use Rattle.output.specs.Block.{block, put_all, put_if_fits}
use Rattle.output.proofs.Pieces.{PartlyPut, none_put, next_fits, next_put, all_put, next_put_if_fits}
use Rattle.layout.specs.ListingLines.{record_line}
use Rattle.listing.specs.Records.{frame_text, record_text, records_text}

-- A record's line, and a frame's after it.
module _ (frames : Bool) (tray : List ℕ) (head value : ℕ) (out : List ℕ) (at : ℕ) (fits : at + length (record_text frames tray head value) ≤ length out)
    (out' : List ℕ) (place : ℕ) (line : block out' place ≡ put_if_fits out at (record_line head value)) where
  line_put : PartlyPut out at (record_text frames tray head value) out' place (frame_text frames tray head value)
  unfolding record_text
  line_put =
      next_put_if_fits (none_put _ _ (record_text frames tray head value) fits) (record_line head value) (frame_text frames tray head value) refl out' place line

  pub without_frame : frame_text frames tray head value ≡ [] → block out' place ≡ put_all out at (record_text frames tray head value)
  without_frame e = all_put line_put e

  pub with_frame : (text out'' : List ℕ) (end : ℕ) → frame_text frames tray head value ≡ text → block out'' end ≡ put_if_fits out' place text
      → block out'' end ≡ put_all out at (record_text frames tray head value)
  with_frame text out'' end e p = all_put (next_put_if_fits line_put text [] (e ∙ sym (append-nil text)) out'' end p) refl

-- Words taken two by two.
module _ (frames : Bool) (tray : List ℕ) where
  fewer_than_two : (words : List ℕ) → length words < 2 → records_text frames tray words ≡ []
  unfolding records_text
  fewer_than_two [] h = refl
  fewer_than_two (x ∷ []) h = refl
  fewer_than_two (x ∷ y ∷ words) h = absurd (omega arith)

  module _ (words : List ℕ) (i : ℕ) where
    abbrev next_record : List ℕ
    next_record = record_text frames tray (get_or words (2 * i) 0) (get_or words (2 * i + 1) 0)

    records_next : i < length words / 2 → records_text frames tray (drop (2 * i) words) ≡ next_record ++ records_text frames tray (drop (2 * (i + 1)) words)
    unfolding records_text
    records_next h =
        let e : 2 * (i + 1) ≡ suc (2 * i + 1) = omega arith in
        rw (drop-cons words (2 * i) 0 (omega arith), ← add-one (2 * i), drop-cons words (2 * i + 1) 0 (omega arith), e)

    pub records_all : length words / 2 ≤ i → records_text frames tray (drop (2 * i) words) ≡ []
    records_all h = fewer_than_two (drop (2 * i) words) (rw length-drop (omega arith))

    module _ (h : i < length words / 2) {out₀ : List ℕ} {at : ℕ} {whole out : List ℕ} {place : ℕ}
        (l : PartlyPut out₀ at whole out place (records_text frames tray (drop (2 * i) words))) where
      pub record_fits : place + length next_record ≤ length out
      record_fits = next_fits l next_record _ (records_next h)

      pub record_put : (out' : List ℕ) (place' : ℕ) → block out' place' ≡ put_all out place next_record
          → PartlyPut out₀ at whole out' place' (records_text frames tray (drop (2 * (i + 1)) words))
      record_put = next_put l next_record _ (records_next h)
