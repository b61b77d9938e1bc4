-- Calls in numbers, with what is said and the buffer afterwards (document 02, F-12).
-- Assumes nothing.
use Rattle.std.specs.Prelude.{◌≡◌, List, [], ◌∷◌, map, ℕ}
use Rattle.replies.specs.Said.{Reply}
use Rattle.replies.specs.Said.{Whole, NoHeader, CutShort, WrongExpected, WrongBuffer, WrongRange}
use Rattle.replies.specs.Replies.{ReplyResult, reply_result, reply_of}

pub record ReplyRow : Type 0 where
  pub input : List ℕ
  pub first : ℕ
  pub count : ℕ
  pub expected : ℕ
  pub buffer : List ℕ
  pub result : ReplyResult

abbrev row : List ℕ → ℕ → ℕ → ℕ → List ℕ → Reply → List ℕ → ReplyRow
row input first count expected buffer reply after =
    record { input = input; first = first; count = count; expected = expected; buffer = buffer; result = reply_result reply after }

-- 11101, eight ones, eight zeros.
abbrev one_zero : List ℕ
one_zero = 0xEF ∷ 0xF8 ∷ 0x00 ∷ []

-- 11101 and 1, 0, 1, 1, 0, 0, 1, 0, 1, eight cycles each.
abbrev nine : List ℕ
nine = 0xEF ∷ 0xF8 ∷ 0x07 ∷ 0xFF ∷ 0xF8 ∷ 0x00 ∷ 0x07 ∷ 0xF8 ∷ 0x07 ∷ 0xF8 ∷ []

abbrev pub reply_table : List ReplyRow
reply_table =
    -- whole: the last byte's unused bits are 0, bytes beyond stay, and what comes behind the bits that are expected is not looked at
    row one_zero 0 21 2 (0xFF ∷ []) Whole (0x80 ∷ [])
    ∷ row one_zero 0 24 2 (0xFF ∷ 0x55 ∷ []) Whole (0x80 ∷ 0x55 ∷ [])
    ∷ row one_zero 0 24 1 (0xFF ∷ []) Whole (0x80 ∷ [])
    ∷ row nine 0 77 9 (0xFF ∷ 0xFF ∷ 0x55 ∷ []) Whole (0xB2 ∷ 0x80 ∷ 0x55 ∷ [])
    -- from the second bit on
    ∷ row (0x77 ∷ 0xFC ∷ 0x00 ∷ []) 1 21 2 (0xFF ∷ []) Whole (0x80 ∷ [])
    -- cut short by a cycle, by a group, by all
    ∷ row nine 0 76 9 (0xFF ∷ 0xFF ∷ 0x55 ∷ []) (CutShort 8) (0xB2 ∷ 0xFF ∷ 0x55 ∷ [])
    ∷ row one_zero 0 20 2 (0xFF ∷ []) (CutShort 1) (0x80 ∷ [])
    ∷ row one_zero 0 13 2 (0xFF ∷ []) (CutShort 1) (0x80 ∷ [])
    ∷ row one_zero 0 12 2 (0xFF ∷ []) (CutShort 0) (0xFF ∷ [])
    ∷ row one_zero 0 5 2 (0xFF ∷ []) (CutShort 0) (0xFF ∷ [])
    -- no header: four bits of it; each of its bits inverted, one header a byte; one that begins ahead of the range; no bits
    ∷ row one_zero 0 4 2 (0xFF ∷ []) NoHeader (0xFF ∷ [])
    ∷ row (0x68 ∷ 0xA8 ∷ 0xC8 ∷ 0xF8 ∷ 0xE0 ∷ []) 0 40 1 (0xFF ∷ []) NoHeader (0xFF ∷ [])
    ∷ row one_zero 1 20 1 (0xFF ∷ []) NoHeader (0xFF ∷ [])
    ∷ row one_zero 24 0 1 (0xFF ∷ []) NoHeader (0xFF ∷ [])
    ∷ row [] 0 0 1 (0xFF ∷ []) NoHeader (0xFF ∷ [])
    -- 11111101: the header is the last five bits; 111011101: the first five, though the last five are one too
    ∷ row (0xFD ∷ 0xFF ∷ []) 0 16 1 (0x00 ∷ []) Whole (0x80 ∷ [])
    ∷ row (0xEE ∷ 0xFF ∷ []) 0 13 1 (0x00 ∷ []) Whole (0x80 ∷ [])
    -- a second header is data
    ∷ row (0xEF ∷ 0x47 ∷ 0x40 ∷ []) 0 21 2 (0x00 ∷ []) Whole (0xC0 ∷ [])
    -- four of eight: the first decides; five and three: not the first
    ∷ row (0xEF ∷ 0x80 ∷ 0x78 ∷ []) 0 21 2 (0x00 ∷ []) Whole (0x80 ∷ [])
    ∷ row (0xE8 ∷ 0xFF ∷ 0x00 ∷ []) 0 21 2 (0xFF ∷ []) Whole (0x80 ∷ [])
    -- refused: 18, then 19, then 5
    ∷ row one_zero 0 25 0 [] WrongExpected []
    ∷ row one_zero 0 25 8192 [] WrongExpected []
    ∷ row one_zero 0 25 8191 [] WrongBuffer []
    ∷ row one_zero 0 25 9 (0xFF ∷ []) WrongBuffer (0xFF ∷ [])
    ∷ row one_zero 0 25 8 (0xFF ∷ []) WrongRange (0xFF ∷ [])
    ∷ row one_zero 25 0 8 (0xFF ∷ []) WrongRange (0xFF ∷ [])
    ∷ []

-- Each row, computed.
abbrev answered : ReplyRow → ReplyResult
answered r = reply_of r.input r.first r.count r.expected r.buffer

abbrev result : ReplyRow → ReplyResult
result r = r.result

abbrev pub ReplyExamples : Type 0
ReplyExamples = map answered reply_table ≡ map result reply_table
