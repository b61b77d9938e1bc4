-- The bits of a command and of its Field 5, by its kind.
-- Assumes nothing.
use mathlib.Core.Bool.{true, false}
use mathlib.Core.List.{List, ◌++◌}
use mathlib.Core.Logic.{⊎_elim}
use mathlib.Core.Path.{◌≡◌, sym, ap}
use Prim.Native.Nat.{ℕ, ◌*◌, ◌-◌, ◌/◌, ◌<◌, ◌≤◌}
use native.Mathlib.Omega.{arith}
use lib.Dec.{leb}
use lib.ListN.{length}
use borrow.Author.Tests.{ne_eqb, le-leb, lt-leb, lt-ltb, le-ltb, leb-true, leb-false}
use Rattle.bits.proofs.Truth.{cases}
use Rattle.bits.specs.Bits.{bits_of}
use Rattle.slow_fields.specs.Slow.{length_of}
use Rattle.orders.specs.declared.Order.{Order}
use Rattle.orders.specs.Fields.{is_frame_kind, value_width}
use Rattle.orders.specs.Streams.{number_bits, zeros, repeated, field_frame, field5_bits, slow_fields, lv1_bits, header_bits, slow_body, command_bits}
use Rattle.composing.specs.Checked.{ordered}
use Rattle.composing.proofs.FitFields.{repeated_once}

module _ (o : Order) (lent : List ℕ) where
  -- a frame
  pub receiver_field : o.kind ≡ 38 → 8 * (o.bits / 8) ≡ o.bits → bits_of lent 0 (8 * (o.bits / 8)) ≡ field_frame (ordered o lent)
  receiver_field e whole = rw (e, whole) (sym (repeated_once (bits_of lent 0 o.bits)))

  pub front_end_field : (o.kind ≡ 38 → ⊥) → repeated 8 (bits_of lent 0 o.bits) ≡ field_frame (ordered o lent)
  front_end_field n = rw (ne_eqb o.kind 38 n)

  -- Field 5
  pub frame_field : is_frame_kind o.kind ≡ true → field_frame (ordered o lent) ≡ field5_bits (ordered o lent)
  frame_field e = rw e

  pub number_field : is_frame_kind o.kind ≡ false → 0 < value_width o.kind
      → number_bits (value_width o.kind) o.value ≡ field5_bits (ordered o lent)
  number_field e some = rw (e, lt-ltb 0 (value_width o.kind) some)

  pub zeros_field_lem : is_frame_kind o.kind ≡ false → value_width o.kind ≤ 0 → zeros (length_of (o.kind - 32) 0) ≡ field5_bits (ordered o lent)
  zeros_field_lem e none = rw (e, le-ltb 0 (value_width o.kind) none)

  -- a command
  pub lv1_command : o.kind ≡ 1 → lv1_bits ≡ command_bits (ordered o lent)
  unfolding command_bits
  lv1_command e = rw e

  pub fast_command : (o.kind ≡ 1 → ⊥) → o.kind < 32 → header_bits ++ number_bits 4 (o.kind - 16) ≡ command_bits (ordered o lent)
  unfolding command_bits
  fast_command n h = rw (ne_eqb o.kind 1 n, lt-leb 32 o.kind h)

  pub slow_command : 32 ≤ o.kind → header_bits ++ (slow_body ++ slow_fields (ordered o lent)) ≡ command_bits (ordered o lent)
  unfolding command_bits
  slow_command h = rw (ne_eqb o.kind 1 (λ e. omega arith), le-leb 32 o.kind h)

  -- behind a header at least a body
  pub command_long : (o.kind ≡ 1 → ⊥) → 9 ≤ length (command_bits (ordered o lent))
  command_long n =
      ⊎_elim (λ (t : leb 32 o.kind ≡ true). omega (arith, ap length (slow_command (leb-true 32 o.kind t))))
      (λ (f : leb 32 o.kind ≡ false). omega (arith, ap length (fast_command n (leb-false 32 o.kind f)))) (cases (leb 32 o.kind))
