-- The round trip by taking calls: what calls write and leave is what the bits that they take say.
-- Assumes nothing.
use mathlib.Core.Path.{◌∙◌, sym, ap, subst}
use Rattle.frames.specs.Tray.{part_of, PartHolds}
use Rattle.calls.specs.Run.{state_after, words_after}
use Rattle.calls.specs.Turn.{System, turn_of}
use Rattle.calls.proofs.CallLists.{carried_words_lem, carried_system_lem}
use Rattle.orders.specs.Streams.{frame_of}
use Rattle.round_trip.specs.ReadBack.{opened}
use Rattle.round_trip.specs.CallsReadBack.{CallsRoundTrip, CallsFrameRoundTrip}
use Rattle.round_trip.proofs.RoundTrip.{round_trip}
use Rattle.round_trip.proofs.FrameRoundTrip.{frame_round_trip}

pub calls_round_trip : CallsRoundTrip
calls_round_trip plan store tray xs ps fit took =
    let s = opened plan store tray in
    let f = round_trip plan store tray xs fit in
    record { records = f.records; words = carried_words_lem s ps ∙ ap (words_after turn_of s) took ∙ f.words; shows = f.shows }

pub calls_frame_round_trip : CallsFrameRoundTrip
calls_frame_round_trip plan store tray before x after ps fit carries whole took =
    let s = opened plan store tray in
    let left = carried_system_lem s ps ∙ ap (state_after turn_of s) took in
    subst (λ (u : System). PartHolds (frame_of x) (part_of u.machine.tray x.order.bits)) (sym left)
    (frame_round_trip plan store tray before x after fit carries whole).part
