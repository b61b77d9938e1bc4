-- Number 5 of the refusals (document 01, "A taking call"), with the limit of document 02, F-6.
-- Assumes nothing.
use Rattle.std.specs.Prelude.{Bool, ◌&&◌, ℕ, ◌+◌, ◌*◌, leb}
use Rattle.limits.specs.Limits.{input_limit}

-- Number 5 does not apply, by the bytes that an input may have, those that it has, and the range: its first bit and its count of bits.
abbrev pub range_fits_within : ℕ → ℕ → ℕ → ℕ → Bool
range_fits_within limit input first count = leb input limit && leb (first + count) (8 * input)

-- With the limit of F-6.
abbrev pub range_fits : ℕ → ℕ → ℕ → Bool
range_fits = range_fits_within input_limit
