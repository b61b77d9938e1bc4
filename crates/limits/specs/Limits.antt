-- The limits of document 01 ("One cycle, one bit" and "A taking call") and, for the input, of document 02, F-6.
-- Assumes nothing.
use Rattle.std.specs.Prelude.{ℕ, ◌^◌}

-- "Cycles are numbered below 2^48."
abbrev pub clock_limit : ℕ
clock_limit = 2 ^ 48

-- The store, document 01's term for the FIFO words, and the tray.
abbrev pub store_length : ℕ
store_length = 2048

abbrev pub tray_length : ℕ
tray_length = 8192

-- The list unit: a record is two words.
abbrev pub list_unit : ℕ
list_unit = 2

-- "Inputs up to 1,048,576 bytes" (document 02, F-6): the longest input of a call, for every number 5.
abbrev pub input_limit : ℕ
input_limit = 1048576
