-- The word COUNT of the program `reply` (ours: the papers have no program's words).
-- Assumes nothing.
use Rattle.std.specs.Prelude.{◌≡◌, cond, List, [], ℕ, Option, Some, None, leb, length}
use Rattle.output.specs.Ascii.{ascii}
use Rattle.replies.specs.Replies.{most_bits}
use Rattle.text_numbers.specs.Numbers.{decimal}

-- The data bits that a word asks for: one to four decimal digits, at most as many as a reply may have; 0 for any other word.
abbrev pub fit_number : Option ℕ → ℕ
fit_number None = 0
fit_number (Some n) = cond (leb n most_bits) n 0

unfoldable pub data_bits : List ℕ → ℕ
data_bits word = cond (leb (length word) 4) (fit_number (decimal word)) 0

-- In numbers.
pub record WordExamples : Type 0 where
  pub least : data_bits (ascii "1") ≡ 1
  pub most : data_bits (ascii "8191") ≡ 8191
  pub zeros : data_bits (ascii "0016") ≡ 16
  pub none : data_bits (ascii "0") ≡ 0
  pub more : data_bits (ascii "8192") ≡ 0
  pub long : data_bits (ascii "00016") ≡ 0
  pub hexadecimal : data_bits (ascii "1F") ≡ 0
  pub empty : data_bits [] ≡ 0
