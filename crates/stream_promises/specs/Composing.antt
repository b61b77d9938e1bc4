-- The sixth promise: composing a stream, and reading it back (document 02, F-2).
-- Assumes nothing.
use Rattle.std.specs.Prelude.{◌≡◌, Bool, true, false, not, ◌&&◌, ◌||◌, List, [], ◌∷◌, ◌++◌, ℕ, ◌+◌, ◌*◌, ◌/◌, ◌%◌, ◌≤◌, ltb, leb, eqb, length, take}
use Rattle.limits.specs.Limits.{clock_limit, store_length, tray_length, input_limit}
use Rattle.bits.specs.Bits.{bits_of}
use Rattle.frames.specs.Tray.{part_of, PartHolds}
use Rattle.records.specs.declared.Record.{Record}
use Rattle.records.specs.Records.{record_words}
use Rattle.plans.specs.declared.Plan.{Plan}
use Rattle.plans.specs.Plan.{default_plan}
use Rattle.timing.specs.Table.{among_kinds, zeros_asked}
use Rattle.patterns.specs.Verdict.{Accepted}
use Rattle.patterns.specs.Verdicts.{accept_of}
use Rattle.calls.specs.Turn.{System}
use Rattle.calls.specs.Calls.{Part, carried_bits, carried_words, carried_system}
use Rattle.orders.specs.declared.Order.{Order}
use Rattle.orders.specs.declared.Context.{Context}
use Rattle.orders.specs.Composed.{Composed}
use Rattle.orders.specs.Fields.{Ordered, is_frame_kind}
use Rattle.orders.specs.Streams.{frame_of, stream_of}
use Rattle.orders.specs.Composing.{start, context_after, ComposeResult, compose_of}
use Rattle.orders.specs.ComposeTable.{ComposeExamples}
use Rattle.line_meanings.specs.Lines.{lines_of}
use Rattle.order_lines.specs.Examples.{LineExamples}
use Rattle.gathered_lines.specs.Gathering.{line_texts}
use Rattle.order_refusals.specs.Refusals as texts
use Rattle.compositions.specs.Compositions.{output_limit}
use Rattle.order_texts.specs.Composed.{composed_of}
use Rattle.order_texts.specs.Examples.{ComposedExamples}
use Rattle.order_texts.specs.Blocks.{AsRead}
use Rattle.round_trip.specs.ReadBack.{opened, ShowsEach}
use Rattle.round_trip.specs.Bytes.{HoldsBits}
use Rattle.round_trip.specs.Acceptance.{OnlyTriggersAndFasts}
use Rattle.promises.specs.Refusals.{Row, row, first_of, three_in_mask, three_differ}

-- The kinds that an order may have.
abbrev pub order_kinds : List ℕ
order_kinds =
    0x01 ∷ 0x11 ∷ 0x12 ∷ 0x14 ∷ 0x18 ∷ 0x20 ∷ 0x21 ∷ 0x22 ∷ 0x23 ∷ 0x24 ∷ 0x25 ∷ 0x26 ∷ 0x28 ∷ 0x29 ∷ 0x2A ∷ []

-- "a used field of the wrong size": an address, the bits of a register, of a FIFO word and of GlobalResetFE; and "a variable field must have exactly that
-- length", the one of CNT, and its bits are lent, of so many bytes.
abbrev pub wrong_field : ℕ → Order → ℕ → Bool
wrong_field cnt o bytes =
    (among_kinds o.kind (0x20 ∷ 0x21 ∷ 0x23 ∷ []) && leb 16 o.address)
    || ((eqb o.kind 0x20 && leb 65536 o.value)
    || ((eqb o.kind 0x22 && leb 134217728 o.value)
    || ((eqb o.kind 0x2A && leb 16 o.value)
    || ((among_kinds o.kind (0x24 ∷ 0x25 ∷ []) && not (eqb o.bits (cnt / 8 + cnt % 8 * 8)))
    || ((eqb o.kind 0x26 && not (eqb o.bits (cnt % 8192 * 8)))
    || (among_kinds o.kind (0x24 ∷ 0x25 ∷ 0x26 ∷ []) && ltb (8 * bytes) o.bits))))))

-- "9 for an unknown command or a used field of the wrong size, 10 for too few zeros".
unfoldable pub is_wrong : Context → Ordered → Bool
is_wrong c x = not (among_kinds x.order.kind order_kinds) || wrong_field c.cnt x.order (length x.lent)

unfoldable pub has_few_zeros : Context → Ordered → Bool
has_few_zeros c x = ltb x.order.zeros (zeros_asked c.last x.order.kind)

abbrev pub order_rows : Context → Ordered → List Row
order_rows c x = row 9 (is_wrong c x) ∷ row 10 (has_few_zeros c x) ∷ []

-- "then, order by order".
unfoldable pub rows_from : Plan → Context → List Ordered → List Row
rows_from plan c [] = []
rows_from plan c (x ∷ xs) = order_rows c x ++ rows_from plan (context_after plan c x.order) xs

-- "Errors: 1 for the plan; then, order by order, 9 .., 10 ..; last of all, 11 when the output cannot hold the whole stream or it passes 2^48 bits".
abbrev pub composing_rows : Plan → List Ordered → ℕ → List Row
composing_rows plan xs bytes =
    row 1 (not (three_in_mask plan && three_differ plan))
    ∷ rows_from plan start xs
    ++ (row 11 (ltb clock_limit (length (stream_of xs)) || ltb (8 * bytes) (length (stream_of xs))) ∷ [])

-- A composing call answers the number of the first row that applies. "A refusal writes nothing", and its count is 0; where it names an order, the rows of
-- the orders ahead of that one do not apply, and with its own the number is found.
pub record NamesFirst (plan : Plan) (xs : List Ordered) (a : Composed) : Type 0 where
  pub ahead : first_of (rows_from plan start (take a.order xs)) ≡ 0
  pub this : first_of (rows_from plan start (take (a.order + 1) xs)) ≡ a.number

pub record Composes (plan : Plan) (xs : List Ordered) (output : List ℕ) : Type 0 where
  pub number : (compose_of plan xs output).answer.number ≡ first_of (composing_rows plan xs (length output))
  pub unchanged : ((compose_of plan xs output).answer.number ≡ 0 → ⊥)
      → ((compose_of plan xs output).output ≡ output) × ((compose_of plan xs output).answer.bits ≡ 0)
  pub named : (eqb (compose_of plan xs output).answer.number 9 || eqb (compose_of plan xs output).answer.number 10) ≡ true
      → NamesFirst plan xs (compose_of plan xs output).answer
  pub whole : (eqb (compose_of plan xs output).answer.number 9 || eqb (compose_of plan xs output).answer.number 10) ≡ false
      → (compose_of plan xs output).answer.order ≡ 0

-- The stream that a call has written: as many bits of its output as it answers.
abbrev pub stream_in : ComposeResult → List ℕ
stream_in r = bits_of r.output 0 r.answer.bits

-- A call that is not refused: its output holds the bits of the orders, commands and zeros as ordered; "the last byte is filled up with zeros and bytes
-- beyond it are unchanged".
pub record Writes (plan : Plan) (xs : List Ordered) (output : List ℕ) : Type 0 where
  pub stream : stream_in (compose_of plan xs output) ≡ stream_of xs
  pub count : (compose_of plan xs output).answer.bits ≡ length (stream_of xs)
  pub clock : length (stream_of xs) ≤ clock_limit
  pub holds : HoldsBits (stream_of xs) output (compose_of plan xs output).output

-- "Reading the stream from a fresh opening at cycle 0 with the same plan, in calls that together take all of it, gives one record an order, at its cycle,
-- with its command, its used fields".
pub record ReadAs (words : List ℕ) (xs : List Ordered) : Type 0 where
  pub records : List Record
  pub written : words ≡ record_words records
  pub shows : ShowsEach 0 xs records

-- Some first ones of a list of calls took such bits.
pub record FirstCalls (s : System) (ps : List Part) (bits : List ℕ) : Type 0 where
  pub first : List Part
  pub rest : List Part
  pub calls : ps ≡ first ++ rest
  pub took : carried_bits s first ≡ bits

-- With its premise, that a call was not refused.
module _ (plan : Plan) (xs : List Ordered) (output : List ℕ) where
  abbrev pub Accepts : Type 0
  Accepts = (compose_of plan xs output).answer.number ≡ 0

  abbrev pub ReadsBack : Type 0
  ReadsBack =
      (store tray : List ℕ) (ps : List Part) → carried_bits (opened plan store tray) ps ≡ stream_in (compose_of plan xs output)
      → ReadAs (carried_words (opened plan store tray) ps) xs

  -- "and, in the tray, its frame bits": what the frame part hands back once the calls have taken all up to a frame's last bit, at which a call stops.
  abbrev pub FrameBack : Type 0
  FrameBack =
      (before : List Ordered) (x : Ordered) (after : List Ordered) → xs ≡ before ++ (x ∷ after) → is_frame_kind x.order.kind ≡ true
      → (store tray : List ℕ) (ps : List Part) → carried_bits (opened plan store tray) ps ≡ stream_of (before ++ (x ∷ []))
      → PartHolds (frame_of x) (part_of (carried_system (opened plan store tray) ps).machine.tray x.order.bits)

  -- Calls that together take all of it take all up to there with some first ones of them: one stops there by itself.
  abbrev pub FrameStops : Type 0
  FrameStops =
      (before : List Ordered) (x : Ordered) (after : List Ordered) → xs ≡ before ++ (x ∷ after) → is_frame_kind x.order.kind ≡ true
      → (store tray : List ℕ) (ps : List Part) → carried_bits (opened plan store tray) ps ≡ stream_in (compose_of plan xs output)
      → FirstCalls (opened plan store tray) ps (stream_of (before ++ (x ∷ [])))

  -- The premises can be met: with a store and a tray of their lengths there are calls that together take all of it.
  pub record Readable (store tray : List ℕ) : Type 0 where
    pub parts : List Part
    pub took : carried_bits (opened plan store tray) parts ≡ stream_in (compose_of plan xs output)

  abbrev pub ReadsBackMet : Type 0
  ReadsBackMet = (store tray : List ℕ) → length store ≡ store_length → length tray ≡ tray_length → Readable store tray

  -- Of trigger and fast commands alone it is accepted by the check of document 02, F-8.
  abbrev pub AcceptedBack : Type 0
  AcceptedBack =
      OnlyTriggersAndFasts xs → length output ≤ input_limit
      → accept_of (compose_of plan xs output).output 0 (compose_of plan xs output).answer.bits ≡ Accepted

-- The program `compose`: where no line is refused and the stream is not too long, it is the composing call on the orders of its lines, with the default plan
-- and an output of a mebibyte. So what it prints reads back.
module _ (characters : List ℕ) where
  abbrev pub text_orders : List Ordered
  text_orders = texts.orders_in (line_texts (lines_of characters))

  pub record IsTheCall (output : List ℕ) : Type 0 where
    pub accepts : Accepts default_plan text_orders output
    pub bytes : (composed_of characters).bytes
        ≡ take (((compose_of default_plan text_orders output).answer.bits + 7) / 8) (compose_of default_plan text_orders output).output

abbrev pub ProgramComposes : Type 0
ProgramComposes =
    (characters output : List ℕ) → (composed_of characters).refusal.number ≡ 0 → length output ≡ output_limit → IsTheCall characters output

pub record SixthPromise : Type 0 where
  pub composes : (plan : Plan) (xs : List Ordered) (output : List ℕ) → Composes plan xs output
  pub writes : (plan : Plan) (xs : List Ordered) (output : List ℕ) → Accepts plan xs output → Writes plan xs output
  pub reads_back : (plan : Plan) (xs : List Ordered) (output : List ℕ) → Accepts plan xs output → ReadsBack plan xs output
  pub frame_back : (plan : Plan) (xs : List Ordered) (output : List ℕ) → Accepts plan xs output → FrameBack plan xs output
  pub frame_stops : (plan : Plan) (xs : List Ordered) (output : List ℕ) → Accepts plan xs output → FrameStops plan xs output
  pub met : (plan : Plan) (xs : List Ordered) (output : List ℕ) → Accepts plan xs output → ReadsBackMet plan xs output
  pub accepted_back : (plan : Plan) (xs : List Ordered) (output : List ℕ) → Accepts plan xs output → AcceptedBack plan xs output
  pub in_numbers : ComposeExamples
  pub program : ProgramComposes
  pub lines : LineExamples
  pub texts : ComposedExamples
  pub as_read : AsRead
