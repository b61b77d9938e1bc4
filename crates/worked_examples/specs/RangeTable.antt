-- Number 5 at the neighbours of its limits, by the input's length: a list of so many bytes is too long to compute with (document 01, the refusal table;
-- document 02, F-6).
-- Assumes nothing.
use Rattle.std.specs.Prelude.{Bool, true, false, List, [], ◌∷◌, ℕ}
use Rattle.bits.specs.Range.{range_fits_within, range_fits}

-- A row: the input's bytes, the range's first bit and count of bits, and whether it is fit.
pub record RangeRow : Type 0 where
  pub input : ℕ
  pub first : ℕ
  pub count : ℕ
  pub fits : Bool

abbrev range : ℕ → ℕ → ℕ → Bool → RangeRow
range input first count fits = record { input = input; first = first; count = count; fits = fits }

abbrev pub range_shown : RangeRow → Bool
range_shown r = range_fits r.input r.first r.count

abbrev pub range_expected : RangeRow → Bool
range_expected r = r.fits

-- The same with the limit before F-6, which a promise compares with.
abbrev pub before_shown : RangeRow → Bool
before_shown r = range_fits_within 65536 r.input r.first r.count

abbrev pub before_table : List RangeRow
before_table =
    range 65535 0 524280 true
    ∷ range 65536 0 524288 true
    ∷ range 65536 524288 0 true
    ∷ range 65536 0 524289 false
    ∷ range 65537 0 0 false
    ∷ range 1048576 0 1 false
    ∷ []

abbrev pub table : List RangeRow
table =
    -- no bytes have no bits
    range 0 0 0 true
    ∷ range 0 0 1 false
    ∷ range 0 1 0 false
    -- the limit before F-6 is none any more
    ∷ range 65536 0 524288 true
    ∷ range 65536 0 524289 false
    ∷ range 65537 0 524296 true
    -- F-6's limit
    ∷ range 1048575 0 8388600 true
    ∷ range 1048576 0 8388608 true
    ∷ range 1048576 8388608 0 true
    ∷ range 1048576 8388607 1 true
    ∷ range 1048576 8388607 2 false
    ∷ range 1048576 8388609 0 false
    ∷ range 1048576 0 8388609 false
    ∷ range 1048577 0 0 false
    ∷ range 1048577 0 1 false
    -- first bit and count near 2^64: their sum is no smaller number
    ∷ range 1048576 0xFFFFFFFFFFFFFFFF 1 false
    ∷ range 1048576 1 0xFFFFFFFFFFFFFFFF false
    ∷ range 1048576 0xFFFFFFFFFFFFFFFF 0xFFFFFFFFFFFFFFFF false
    ∷ []
