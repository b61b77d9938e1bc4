-- A composed stream read back by taking calls (document 02, F-2).
-- Assumes nothing.
use Rattle.std.specs.Prelude.{true, List, [], ◌∷◌, ◌++◌, ◌≡◌, ℕ, length}
use Rattle.limits.specs.Limits.{tray_length}
use Rattle.records.specs.declared.Record.{Record}
use Rattle.records.specs.Records.{record_words}
use Rattle.plans.specs.declared.Plan.{Plan}
use Rattle.frames.specs.Tray.{part_of, PartHolds}
use Rattle.calls.specs.Calls.{Part, carried_bits, carried_words, carried_system}
use Rattle.orders.specs.Fields.{Ordered, is_frame_kind}
use Rattle.orders.specs.Streams.{frame_of, stream_of}
use Rattle.round_trip.specs.ReadBack.{ShowsEach, Fit, opened}

-- "in calls that together take all of it", cut anywhere, with store and tray carried over: the records that they write.
pub record CallsReadBack (plan : Plan) (store tray : List ℕ) (xs : List Ordered) (ps : List Part) : Type 0 where
  pub records : List Record
  pub words : carried_words (opened plan store tray) ps ≡ record_words records
  pub shows : ShowsEach 0 xs records

abbrev pub CallsRoundTrip : Type 0
CallsRoundTrip =
    (plan : Plan) (store tray : List ℕ) (xs : List Ordered) (ps : List Part) → Fit plan xs → carried_bits (opened plan store tray) ps ≡ stream_of xs
    → CallsReadBack plan store tray xs ps

-- "and, in the tray, its frame bits": where the calls so far took all up to a frame's last bit. A call stops there by itself.
abbrev pub CallsFrameRoundTrip : Type 0
CallsFrameRoundTrip =
    (plan : Plan) (store tray : List ℕ) (before : List Ordered) (x : Ordered) (after : List Ordered) (ps : List Part)
    → Fit plan (before ++ (x ∷ after)) → is_frame_kind x.order.kind ≡ true → length tray ≡ tray_length
    → carried_bits (opened plan store tray) ps ≡ stream_of (before ++ (x ∷ []))
    → PartHolds (frame_of x) (part_of (carried_system (opened plan store tray) ps).machine.tray x.order.bits)
