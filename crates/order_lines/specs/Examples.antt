-- Lines, character for character, with what they mean.
-- Assumes nothing.
use Rattle.std.specs.Prelude.{◌≡◌, false, List, [], ◌∷◌, ℕ}
use Rattle.orders.specs.declared.Order.{Order}
use Rattle.orders.specs.Fields.{order}
use Rattle.output.specs.Ascii.{ascii}
use Rattle.order_lines.specs.Lines.{LineMeaning, blank_line, wrong_line, line_meaning}

abbrev pub fit_line : Order → List ℕ → LineMeaning
fit_line o lent = record { blank = false; reason = 0; order = o; lent = lent }

-- A comment; a name alone, with its zeros, and with a comment behind it; each form of field; a frame with a count, one without, and one of no bits; a number
-- of any length. Then each reason: a name in upper case, a word too few and one too many, a number too large, none, a frame with fewer digits than its count.
pub record LineExamples : Type 0 where
  pub comment : line_meaning (ascii " \t# lv1") ≡ blank_line
  pub name : line_meaning (ascii "lv1") ≡ fit_line (order 0x01 0 0 0 0 0) []
  pub zeros : line_meaning (ascii "bcr\t12 # and more\r") ≡ fit_line (order 0x11 12 0 0 0 0) []
  pub register : line_meaning (ascii "wr-register 3 00bC2a 1\r") ≡ fit_line (order 0x20 1 3 0xBC2A 0 0) []
  pub word : line_meaning (ascii "wr-fifo 7FFFFFF") ≡ fit_line (order 0x22 0 0 0x7FFFFFF 0 0) []
  pub counted : line_meaning (ascii "wr-front-end 5C8:9 40") ≡ fit_line (order 0x24 40 0 0 0 9) (0x5C ∷ 0x80 ∷ [])
  pub digits : line_meaning (ascii "wr-receiver aB") ≡ fit_line (order 0x26 0 0 0 0 8) (0xAB ∷ [])
  pub no_bits : line_meaning (ascii "rd-front-end :0") ≡ fit_line (order 0x25 0 0 0 0 0) []
  pub long : line_meaning (ascii "sync 100000000000000000000") ≡ fit_line (order 0x18 100000000000000000 0 0 0 0) []
  pub upper_case : line_meaning (ascii "LV1") ≡ wrong_line 1
  pub too_few : line_meaning (ascii "wr-register 3") ≡ wrong_line 2
  pub too_many : line_meaning (ascii "lv1 0 0") ≡ wrong_line 2
  pub too_large : line_meaning (ascii "wr-register 10 0") ≡ wrong_line 3
  pub no_number : line_meaning (ascii "ecr A") ≡ wrong_line 3
  pub few_digits : line_meaning (ascii "wr-front-end 5C8:13") ≡ wrong_line 3
