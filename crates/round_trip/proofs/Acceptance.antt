-- A composed stream of trigger and fast commands is a clean stream, and is accepted.
-- Assumes nothing.
use mathlib.Core.Bool.{true, ◌&&◌}
use mathlib.Core.List.{List, [], ◌∷◌, ◌++◌}
use mathlib.Core.Path.{◌≡◌, ◌∙◌, refl}
use Prim.Native.Nat.{ℕ, ◌+◌, ◌<◌}
use native.Mathlib.Omega.{arith}
use lib.Dec.{T, leb}
use lib.ListN.{length}
use Rattle.bits.proofs.Truth.{both, and_both, true_holds}
use Rattle.plans.specs.declared.Plan.{Plan}
use Rattle.clean_streams.specs.Commands.{Command, lv1, bcr, ecr, cal, sync, code_of, command_kind}
use Rattle.clean_streams.specs.CleanStreams.{Item, zeros_between, stream_bits, spaced, timed}
use Rattle.timing.specs.Table.{zeros_asked}
use Rattle.patterns.proofs.Verdicts.{clean_accepted}
use Rattle.orders.specs.declared.Context.{Context}
use Rattle.orders.specs.Fields.{Ordered, is_known, address_fits, value_fits, frame_fits, order_fits}
use Rattle.orders.specs.Streams.{zeros, command_bits, stream_of}
use Rattle.orders.specs.Composing.{start, context_after, refusal_from}
use Rattle.round_trip.specs.Acceptance.{OnlyTriggersAndFasts, ComposedAccepted}
use Rattle.round_trip.proofs.KnownKinds.{known_case}
use Rattle.round_trip.proofs.CommandRead.{ordered_as}
use Rattle.round_trip.proofs.RoundTrip.{first_fits}

-- The clean stream's command of an order.
record CleanCommand (x : Ordered) : Type 0 where
  command : Command
  code : command_bits x ≡ code_of command
  kind : command_kind command ≡ x.order.kind

abbrev CleanAs : ℕ → Type 0
CleanAs kind = kind < 0x20 → (ahead address value frame bits : ℕ) (lent : List ℕ) → CleanCommand (ordered_as kind ahead address value frame bits lent)

clean_command : (x : Ordered) → is_known x.order.kind ≡ true → x.order.kind < 0x20 → CleanCommand x
unfolding command_bits
clean_command x known low =
    let o = x.order in
    known_case CleanAs (record {
      lv1 = λ h ahead address value frame bits lent. record { command = lv1; code = refl; kind = refl };
      bcr = λ h ahead address value frame bits lent. record { command = bcr; code = refl; kind = refl };
      ecr = λ h ahead address value frame bits lent. record { command = ecr; code = refl; kind = refl };
      cal = λ h ahead address value frame bits lent. record { command = cal; code = refl; kind = refl };
      sync = λ h ahead address value frame bits lent. record { command = sync; code = refl; kind = refl };
      write_register = λ h. absurd (omega arith);
      read_register = λ h. absurd (omega arith);
      write_fifo = λ h. absurd (omega arith);
      read_fifo = λ h. absurd (omega arith);
      write_front_end = λ h. absurd (omega arith);
      read_front_end = λ h. absurd (omega arith);
      write_receiver = λ h. absurd (omega arith);
      enable = λ h. absurd (omega arith);
      reset = λ h. absurd (omega arith);
      reset_front_ends = λ h. absurd (omega arith);
    }) o.kind known low o.zeros o.address o.value o.frame o.bits x.lent

-- The items of orders behind a command.
record ItemsOf (c : Context) (xs : List Ordered) : Type 0 where
  items : List Item
  same : stream_of xs ≡ stream_bits items 0
  timing : (d : Command) → command_kind d ≡ c.last → T (spaced d items)
  whole : T (timed items)

items_of : (plan : Plan) (xs : List Ordered) (c : Context) (n : ℕ) → (refusal_from plan c n xs).number ≡ 0 → OnlyTriggersAndFasts xs → ItemsOf c xs
unfolding stream_of order_fits
items_of plan [] c n h only = record { items = []; same = refl; timing = λ d e. tt; whole = tt }
items_of plan (x ∷ xs) c n h only =
    let o = x.order in
    let first = first_fits plan c n x xs h in
    let known = (both (is_known o.kind) (address_fits o && (value_fits o && frame_fits c.cnt o (length x.lent))) first.fit).0 in
    let one = clean_command x known only.0 in
    let rest = items_of plan xs (context_after plan c o) (n + 1) first.rest only.1 in
    let later = rest.timing one.command one.kind in
    record {
      items = record { ahead = o.zeros; command = one.command } ∷ rest.items;
      same = λ i. (zeros o.zeros ++ one.code i) ++ rest.same i;
      timing = λ d e.
          and_both (leb (zeros_between d one.command) o.zeros) _
          (true_holds _ ((λ i. leb (zeros_asked (e i) (one.kind i)) o.zeros) ∙ first.enough)) later;
      whole = later;
    }

pub composed_accepted : ComposedAccepted
composed_accepted plan xs fit only =
    let f = items_of plan xs start 0 fit.orders_fit only in
    clean_accepted (stream_of xs) (record { items = f.items; trailing = 0; same = f.same; timing = f.whole })
