-- The reply to RdFrontEnd on the line back from the controller (document 02, F-12).
-- Assumes nothing.
use Rattle.std.specs.Prelude.{Bool, true, false, cond, ◌&&◌, List, [], ◌∷◌, ℕ, ◌*◌, ◌/◌, leb, eqb, length, drop}
use Rattle.bits.specs.Bits.{bits_of}
use Rattle.bits.specs.Range.{range_fits}
use Rattle.groups.specs.Vote.{votes_of}
use Rattle.frames.specs.Tray.{filled_of}
use Rattle.replies.specs.Said.{Reply}
use Rattle.replies.specs.Said.{Whole, NoHeader, CutShort, WrongExpected, WrongBuffer, WrongRange}

-- "the header 11101, one cycle a bit".
abbrev pub header : List ℕ
header = 1 ∷ 1 ∷ 1 ∷ 0 ∷ 1 ∷ []

-- Whether a list begins with another.
abbrev pub begins : List ℕ → List ℕ → Bool
begins [] bits = true
begins (x ∷ xs) [] = false
begins (x ∷ xs) (bit ∷ bits) = eqb bit x && begins xs bits

-- What comes behind the header, if there is one.
pub data Behind : Type 0 where
  nowhere : Behind
  behind : List ℕ → Behind

-- "The header is taken at its first exact place, with no allowance for a flip."
unfoldable pub behind_header : List ℕ → Behind
behind_header [] = nowhere
behind_header (bit ∷ bits) = cond (begins header (bit ∷ bits)) (behind (drop 5 (bit ∷ bits))) (behind_header bits)

-- "the number of complete bits": the whole groups of eight cycles, at most the bits that are expected.
abbrev pub complete_of : ℕ → List ℕ → ℕ
complete_of expected cycles = cond (leb expected (length cycles / 8)) expected (length cycles / 8)

-- What is said, and the buffer afterwards.
pub record ReplyResult : Type 0 where
  pub reply : Reply
  pub buffer : List ℕ

abbrev pub reply_result : Reply → List ℕ → ReplyResult
reply_result reply buffer = record { reply = reply; buffer = buffer }

-- "A bit is decided by the vote of F-4. The answer is 'whole', .. or 'cut short' with the number of complete bits, which fill the buffer from its start, the
-- last byte's unused bits zero; bytes beyond are unchanged": as frame bits fill the tray.
abbrev pub data_result : ℕ → List ℕ → List ℕ → ReplyResult
data_result expected buffer cycles =
    let bits = complete_of expected cycles in
    reply_result (cond (eqb bits expected) Whole (CutShort bits)) (filled_of 0 buffer (votes_of bits cycles))

-- "'no header' .. changes no byte."
abbrev pub result_by : ℕ → List ℕ → Behind → ReplyResult
result_by expected buffer nowhere = reply_result NoHeader buffer
result_by expected buffer (behind cycles) = data_result expected buffer cycles

-- What is read of the bits of a range.
abbrev pub read_of : ℕ → List ℕ → List ℕ → ReplyResult
read_of expected buffer bits = result_by expected buffer (behind_header bits)

-- "18 when the expected bits are 0 or above 8,191".
abbrev pub most_bits : ℕ
most_bits = 8191

abbrev pub expected_fits : ℕ → Bool
expected_fits expected = leb 1 expected && leb expected most_bits

-- "Errors: 18 .., then 19 when the buffer cannot hold them, then number 5." "a refusal changes no byte".
unfoldable pub reply_of : List ℕ → ℕ → ℕ → ℕ → List ℕ → ReplyResult
reply_of input first count expected buffer =
    cond (expected_fits expected)
    (cond (leb expected (8 * length buffer))
    (cond (range_fits (length input) first count) (read_of expected buffer (bits_of input first count)) (reply_result WrongRange buffer))
    (reply_result WrongBuffer buffer))
    (reply_result WrongExpected buffer)

-- The refusal number, 0 for none.
abbrev pub reply_number : Reply → ℕ
reply_number Whole = 0
reply_number NoHeader = 0
reply_number (CutShort bits) = 0
reply_number WrongExpected = 18
reply_number WrongBuffer = 19
reply_number WrongRange = 5

-- Which of the three answers, 0 at a refusal too.
abbrev pub reply_verdict : Reply → ℕ
reply_verdict Whole = 0
reply_verdict NoHeader = 1
reply_verdict (CutShort bits) = 2
reply_verdict WrongExpected = 0
reply_verdict WrongBuffer = 0
reply_verdict WrongRange = 0

-- The complete bits of a reply of which so many are expected.
abbrev pub reply_bits : ℕ → Reply → ℕ
reply_bits expected Whole = expected
reply_bits expected NoHeader = 0
reply_bits expected (CutShort bits) = bits
reply_bits expected WrongExpected = 0
reply_bits expected WrongBuffer = 0
reply_bits expected WrongRange = 0
