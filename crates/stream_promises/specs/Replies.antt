-- The seventh promise: what is read of a reply, and that one which was sent is read back (document 02, F-12).
-- Assumes nothing.
use Rattle.std.specs.Prelude.{◌≡◌, cond, ◌||◌, List, [], ◌∷◌, ◌++◌, ℕ, ◌*◌, ◌/◌, leb, eqb, ltb, length}
use Rattle.bits.specs.Bits.{bits_of}
use Rattle.groups.specs.Vote.{votes_of}
use Rattle.orders.specs.Streams.{repeated}
use Rattle.replies.specs.Said.{Whole, NoHeader, CutShort}
use Rattle.replies.specs.Replies.{header, nowhere, behind, behind_header, complete_of, ReplyResult, reply_result, reply_number, reply_of}
use Rattle.replies.specs.Sent.{FoundAt, Sent}
use Rattle.replies.specs.Examples.{ReplyExamples}
use Rattle.round_trip.specs.Bytes.{HoldsBits}
use Rattle.promises.specs.Refusals.{Row, row, first_of}
use Rattle.stream_promises.specs.Acceptance.{range_row}

-- A call: an input, its range, the expected count of data bits, and the buffer.
pub record ReplyCall : Type 0 where
  pub input : List ℕ
  pub first : ℕ
  pub count : ℕ
  pub expected : ℕ
  pub buffer : List ℕ

abbrev pub result_of : ReplyCall → ReplyResult
result_of c = reply_of c.input c.first c.count c.expected c.buffer

abbrev pub range_of : ReplyCall → List ℕ
range_of c = bits_of c.input c.first c.count

-- "Errors: 18 when the expected bits are 0 or above 8,191, then 19 when the buffer cannot hold them, then number 5."
abbrev pub reply_rows : ReplyCall → List Row
reply_rows c =
    row 18 (eqb c.expected 0 || ltb 8191 c.expected)
    ∷ row 19 (ltb (8 * length c.buffer) c.expected)
    ∷ range_row c.input c.first c.count
    ∷ []

-- A call that no row refuses.
abbrev pub Fit : ReplyCall → Type 0
Fit c = first_of (reply_rows c) ≡ 0

-- The number is that of the first row that applies; "a refusal changes no byte".
pub record Numbered (c : ReplyCall) : Type 0 where
  pub number : reply_number (result_of c).reply ≡ first_of (reply_rows c)
  pub unchanged : (Fit c → ⊥) → (result_of c).buffer ≡ c.buffer

-- "'no header' .. changes no byte."
abbrev pub NotFound : Type 0
NotFound = (c : ReplyCall) → Fit c → behind_header (range_of c) ≡ nowhere → result_of c ≡ reply_result NoHeader c.buffer

-- With a header: whole if enough cycles come behind it, else cut short with the count of whole groups. The complete bits, each the vote of its eight cycles,
-- "fill the buffer from its start, the last byte's unused bits zero; bytes beyond are unchanged".
pub record Reads (c : ReplyCall) (cycles : List ℕ) : Type 0 where
  pub says : (result_of c).reply ≡ cond (leb (8 * c.expected) (length cycles)) Whole (CutShort (length cycles / 8))
  pub holds : HoldsBits (votes_of (complete_of c.expected cycles) cycles) c.buffer (result_of c).buffer

abbrev pub Found : Type 0
Found = (c : ReplyCall) (cycles : List ℕ) → Fit c → behind_header (range_of c) ≡ behind cycles → Reads c cycles

-- A reply that was sent (header, each bit eight times, anything around it that does not hold the header earlier), of which each group has at most three
-- inverted cycles, "is read back whole and exact", by a call that expects as many bits. One that expects fewer is told as many, the first ones.
pub record ReadBack (c : ReplyCall) (bits : List ℕ) : Type 0 where
  pub whole : (result_of c).reply ≡ Whole
  pub exact : HoldsBits bits c.buffer (result_of c).buffer

abbrev pub SentReadBack : Type 0
SentReadBack = (c : ReplyCall) (bits : List ℕ) → Fit c → c.expected ≡ length bits → Sent bits (range_of c) → ReadBack c bits

-- The header and each bit eight times, and anything behind them, is such a reply.
abbrev pub SentMet : Type 0
SentMet = (bits after : List ℕ) → Sent bits (header ++ (repeated 8 bits ++ after))

pub record SeventhPromise : Type 0 where
  pub numbered : (c : ReplyCall) → Numbered c
  pub place : (range : List ℕ) → FoundAt range (behind_header range)
  pub not_found : NotFound
  pub found : Found
  pub sent : SentReadBack
  pub met : SentMet
  pub in_numbers : ReplyExamples
