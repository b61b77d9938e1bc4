-- The sixth promise for the library's own calls, proved.
-- Assumes nothing.
use mathlib.Core.Path.{◌≡◌, ◌∙◌, refl, sym, ap, ap₂, subst}
use mathlib.Core.List.{List, [], ◌∷◌, ◌++◌}
use Prim.Native.Nat.{ℕ, ◌+◌, ◌/◌, ◌%◌, ◌^◌, ◌≤◌, ◌<◌}
use native.Mathlib.Omega.{arith}
use borrow.Author.Tests.{eq-eqb, ne_eqb}
use Rattle.limits.specs.Limits.{clock_limit}
use Rattle.bits.specs.Bits.{bits_of}
use Rattle.frames.specs.Tray.{part_of, PartHolds}
use Rattle.plans.specs.declared.Plan.{Plan}
use Rattle.decoder.specs.declared.Decoder.{Decoder}
use Rattle.calls.specs.Run.{state_after, words_after}
use Rattle.calls.specs.Turn.{System, system_of, turn_of}
use Rattle.orders.specs.Composed.{Composed}
use Rattle.orders.specs.Streams.{frame_of, stream_of}
use Rattle.host_plans.specs.Plans.{plan_of}
use Rattle.host_streams.specs.Compose.{compose_word, compose_words_of}
use Rattle.round_trip.specs.ReadBack.{opened, Fit}
use Rattle.round_trip.specs.Bytes.{ComposedBytes}
use Rattle.round_trip.proofs.Bytes.{bytes}
use Rattle.round_trip.proofs.RoundTrip.{round_trip}
use Rattle.round_trip.proofs.FrameRoundTrip.{frame_round_trip}
use Rattle.stream_promises.specs.Composing.{ReadAs}
use Rattle.host_promises.specs.HostCalls.{Carried, HostPart, stands_for, host_bits, host_words, host_left}
use Rattle.host_promises.specs.HostComposing.{ComposeCall, words_left, orders_of, answer_of, SameComposing, Opened, HostComposing}
use Rattle.stream_promises.proofs.Composing.{number_low, bits_low}
use Rattle.host_promises.proofs.HostDemands.{host_demands}

-- A word, taken apart.
module _ (a : Composed) (low : a.number < 256) where
  word_number : compose_word a % 256 ≡ a.number
  word_number = omega arith

  word_bits : a.bits ≤ clock_limit → a.number ≡ 0 → compose_word a / 256 ≡ a.bits
  word_bits few e = rw (eq-eqb a.number 0 e) (omega arith)

  word_order : (a.number ≡ 0 → ⊥) → compose_word a / 256 ≡ a.order % 2 ^ 56
  word_order some = rw (ne_eqb a.number 0 some) (omega arith)

module _ (c : ComposeCall) where
  abbrev plan : Plan
  plan = plan_of c.mask c.csr c.feen c.cnt

  same : SameComposing c
  unfolding compose_words_of
  same =
      let low = number_low plan (orders_of c) c.output in
      record {
        number = word_number (answer_of c) low;
        bits = word_bits (answer_of c) low (bits_low plan (orders_of c) c.output);
        order = word_order (answer_of c) low;
        output = refl;
      }

  module _ (none : (words_left c).word % 256 ≡ 0) where
    accepts : (answer_of c).number ≡ 0
    accepts = sym same.number ∙ none

    written : ComposedBytes plan (orders_of c) c.output
    written = bytes plan (orders_of c) c.output accepts

    -- the bits that were answered are the stream's
    stream : bits_of (words_left c).output 0 ((words_left c).word / 256) ≡ stream_of (orders_of c)
    stream = ap₂ (λ (l : List ℕ) (n : ℕ). bits_of l 0 n) same.output (same.bits accepts ∙ written.count) ∙ written.holds.read

    module _ (k : Carried) (ps : List HostPart) (is : Opened c k) where
      stands : stands_for k ≡ opened plan k.store k.tray
      stands = ap (λ (d : Decoder). system_of d k.store k.tray) is

      reads_back : host_bits k ps ≡ bits_of (words_left c).output 0 ((words_left c).word / 256) → ReadAs (host_words k ps) (orders_of c)
      reads_back took =
          let r = round_trip plan k.store k.tray (orders_of c) written.fit in
          record {
            records = r.records;
            written = (host_demands.exact k ps).words ∙ ap₂ (words_after turn_of) stands (took ∙ stream) ∙ r.words;
            shows = r.shows;
          }

pub host_composing : HostComposing
host_composing = record {
  same = same;
  reads_back = λ c k ps none is took. reads_back c none k ps is took;
  frame_back = λ c k ps before x after none is parts carries long took.
      let r = frame_round_trip (plan c) k.store k.tray before x after (subst (Fit (plan c)) parts (written c none).fit) carries long in
      let left : (host_left k ps).tray ≡ (state_after turn_of (opened (plan c) k.store k.tray) (stream_of (before ++ (x ∷ [])))).machine.tray =
      ap (λ (s : System). s.machine.tray) ((host_demands.exact k ps).state ∙ ap₂ (state_after turn_of) (stands c none k ps is) took) in
      subst (λ (t : List ℕ). PartHolds (frame_of x) (part_of t x.order.bits)) (sym left) r.part;
}
