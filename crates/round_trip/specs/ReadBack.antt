-- What a composed stream reads back as: one record an order (document 02, F-2).
-- Assumes nothing.
use Rattle.std.specs.Prelude.{◌≡◌, true, cond, List, [], ◌∷◌, ◌++◌, ℕ, ◌+◌, ◌/◌, ◌%◌, ◌^◌, ◌<◌, eqb, length}
use Rattle.limits.specs.Limits.{tray_length}
use Rattle.records.specs.declared.Record.{Record}
use Rattle.records.specs.Records.{kind_slow, record_words, frame_bits_of}
use Rattle.plans.specs.declared.Plan.{Plan}
use Rattle.plans.specs.Plan.{plan_fits}
use Rattle.decoder.specs.Opening.{opened_at}
use Rattle.frames.specs.Tray.{part_of, PartHolds}
use Rattle.calls.specs.Run.{state_after, words_after}
use Rattle.calls.specs.Turn.{System, system_of, turn_of}
use Rattle.orders.specs.declared.Order.{Order}
use Rattle.orders.specs.Fields.{Ordered, is_frame_kind}
use Rattle.orders.specs.Streams.{frame_of, order_bits, stream_of}
use Rattle.orders.specs.Composing.{start, refusal_from}

-- The used fields of an order: address and bits of a register, a word, a FIFO, the count of a frame's bits, SyncW.
abbrev pub used_fields : Order → List ℕ
used_fields o =
    cond (eqb o.kind (kind_slow 0)) (o.address ∷ o.value ∷ [])
    (cond (eqb o.kind (kind_slow 1)) (o.address ∷ [])
    (cond (eqb o.kind (kind_slow 2)) (o.value ∷ [])
    (cond (eqb o.kind (kind_slow 3)) (o.address ∷ [])
    (cond (is_frame_kind o.kind) (o.bits ∷ [])
    (cond (eqb o.kind (kind_slow 10)) (o.value ∷ [])
    [])))))

-- The same off a record's kind and value (document 01, "A record").
abbrev pub fields_shown : ℕ → ℕ → List ℕ
fields_shown kind value =
    cond (eqb kind (kind_slow 0)) (value / 65536 ∷ value % 65536 ∷ [])
    (cond (eqb kind (kind_slow 1)) (value / 65536 ∷ [])
    (cond (eqb kind (kind_slow 2)) (value ∷ [])
    (cond (eqb kind (kind_slow 3)) (value / 2 ^ 27 ∷ [])
    (cond (is_frame_kind kind) (frame_bits_of kind value ∷ [])
    (cond (eqb kind (kind_slow 10)) (value / 2 ∷ [])
    [])))))

-- "one record an order, at its cycle, with its command, its used fields": the order's last bit is that ahead of cycle n. Its flags are a byte, so that time and
-- kind are those of its first word. None with flip, of an unsteady group or too close to the one before: flags 02, 10 and 20.
pub record Shows (n : ℕ) (o : Order) (r : Record) : Type 0 where
  pub time : r.time + 1 ≡ n
  pub kind : r.kind ≡ o.kind
  pub fields : fields_shown r.kind r.value ≡ used_fields o
  pub flags : r.flags < 256
  pub no_flip : r.flags / 2 % 2 ≡ 0
  pub no_unsteady : r.flags / 16 % 2 ≡ 0
  pub no_crowding : r.flags / 32 % 2 ≡ 0

-- All of them, from cycle n on.
abbrev pub ShowsEach : ℕ → List Ordered → List Record → Type 0
ShowsEach n [] [] = Unit {0}
ShowsEach n [] (r ∷ rs) = ⊥
ShowsEach n (x ∷ xs) [] = ⊥
ShowsEach n (x ∷ xs) (r ∷ rs) = let after = n + length (order_bits x) in Shows after x.order r × ShowsEach after xs rs

-- Orders that are fit for a plan.
pub record Fit (plan : Plan) (xs : List Ordered) : Type 0 where
  pub plan_fits_lem : plan_fits plan ≡ true
  pub orders_fit : (refusal_from plan start 0 xs).number ≡ 0

-- "a fresh opening at cycle 0 with the same plan", with any store and any tray of its length.
abbrev pub opened : Plan → List ℕ → List ℕ → System
opened plan store tray = system_of (opened_at plan 0) store tray

-- The records that the stream's cycles write.
pub record ReadsBack (plan : Plan) (store tray : List ℕ) (xs : List Ordered) : Type 0 where
  pub records : List Record
  pub words : words_after turn_of (opened plan store tray) (stream_of xs) ≡ record_words records
  pub shows : ShowsEach 0 xs records

-- "and, in the tray, its frame bits": behind a frame's last bit, in the part of the tray that so many bits fill.
pub record FrameReadsBack (plan : Plan) (store tray : List ℕ) (before : List Ordered) (x : Ordered) : Type 0 where
  pub part : PartHolds (frame_of x) (part_of (state_after turn_of (opened plan store tray) (stream_of (before ++ (x ∷ [])))).machine.tray x.order.bits)

abbrev pub RoundTrip : Type 0
RoundTrip = (plan : Plan) (store tray : List ℕ) (xs : List Ordered) → Fit plan xs → ReadsBack plan store tray xs

abbrev pub FrameRoundTrip : Type 0
FrameRoundTrip =
    (plan : Plan) (store tray : List ℕ) (before : List Ordered) (x : Ordered) (after : List Ordered) → Fit plan (before ++ (x ∷ after))
    → is_frame_kind x.order.kind ≡ true → length tray ≡ tray_length → FrameReadsBack plan store tray before x
