-- The sixth promise for the library's own calls: a stream that one composed, read by lists of others.
-- Assumes nothing.
use Rattle.std.specs.Prelude.{◌≡◌, true, List, [], ◌∷◌, ◌++◌, ℕ, ◌/◌, ◌%◌, ◌^◌, length}
use Rattle.limits.specs.Limits.{tray_length}
use Rattle.bits.specs.Bits.{bits_of}
use Rattle.frames.specs.Tray.{part_of, PartHolds}
use Rattle.decoder.specs.Opening.{opened_at}
use Rattle.image_fields.specs.Image.{state_of}
use Rattle.orders.specs.Composed.{Composed}
use Rattle.orders.specs.Fields.{Ordered, is_frame_kind, orders_in}
use Rattle.orders.specs.Streams.{frame_of, stream_of}
use Rattle.orders.specs.Composing.{compose_of}
use Rattle.host_plans.specs.Plans.{plan_of}
use Rattle.host_streams.specs.Compose.{ComposeWords, compose_words_of}
use Rattle.stream_promises.specs.Composing.{ReadAs}
use Rattle.host_promises.specs.HostCalls.{Carried, HostPart, host_bits, host_words, host_left}

-- What a call is lent: a plan's four numbers, the orders' words, the frames' bytes, the output.
pub record ComposeCall : Type 0 where
  pub mask : ℕ
  pub csr : ℕ
  pub feen : ℕ
  pub cnt : ℕ
  pub words : List ℕ
  pub frames : List ℕ
  pub output : List ℕ

abbrev pub words_left : ComposeCall → ComposeWords
words_left c = compose_words_of c.mask c.csr c.feen c.cnt c.words c.frames c.output

abbrev pub orders_of : ComposeCall → List Ordered
orders_of c = orders_in c.frames c.words

abbrev pub answer_of : ComposeCall → Composed
answer_of c = (compose_of (plan_of c.mask c.csr c.feen c.cnt) (orders_of c) c.output).answer

-- The word is the answer: its number, and behind it the count of bits or, at a refusal, the order's number; the output is that of the composing call.
pub record SameComposing (c : ComposeCall) : Type 0 where
  pub number : (words_left c).word % 256 ≡ (answer_of c).number
  pub bits : (answer_of c).number ≡ 0 → (words_left c).word / 256 ≡ (answer_of c).bits
  pub order : ((answer_of c).number ≡ 0 → ⊥) → (words_left c).word / 256 ≡ (answer_of c).order % 2 ^ 56
  pub output : (words_left c).output ≡ (compose_of (plan_of c.mask c.csr c.feen c.cnt) (orders_of c) c.output).output

-- An image that stands for an opening with the plan's numbers at cycle 0, as `kernelstill_open` leaves it.
abbrev pub Opened : ComposeCall → Carried → Type 0
Opened c k = state_of k.image ≡ opened_at (plan_of c.mask c.csr c.feen c.cnt) 0

-- Calls that together take the bits that were answered write one record an order.
abbrev pub HostReadsBack : Type 0
HostReadsBack =
    (c : ComposeCall) (k : Carried) (ps : List HostPart) → (words_left c).word % 256 ≡ 0 → Opened c k
    → host_bits k ps ≡ bits_of (words_left c).output 0 ((words_left c).word / 256) → ReadAs (host_words k ps) (orders_of c)

-- Where they have taken all up to a frame's last bit, its bits stand in the tray.
abbrev pub HostFrameBack : Type 0
HostFrameBack =
    (c : ComposeCall) (k : Carried) (ps : List HostPart) (before : List Ordered) (x : Ordered) (after : List Ordered)
    → (words_left c).word % 256 ≡ 0 → Opened c k → orders_of c ≡ before ++ (x ∷ after) → is_frame_kind x.order.kind ≡ true
    → length k.tray ≡ tray_length → host_bits k ps ≡ stream_of (before ++ (x ∷ []))
    → PartHolds (frame_of x) (part_of (host_left k ps).tray x.order.bits)

pub record HostComposing : Type 0 where
  pub same : (c : ComposeCall) → SameComposing c
  pub reads_back : HostReadsBack
  pub frame_back : HostFrameBack
