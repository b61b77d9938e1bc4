-- How many bits a Slow's command has, by its Field 5.
-- Assumes nothing.
use mathlib.Core.Bool.{true, false}
use mathlib.Core.List.{List}
use mathlib.Core.Logic.{⊎_elim}
use mathlib.Core.Path.{◌≡◌, ◌∙◌, ap}
use Prim.Native.Nat.{ℕ, ◌+◌, ◌*◌, ◌-◌, ◌≤◌}
use native.Mathlib.Omega.{arith}
use lib.ListN.{length, length-replicate}
use borrow.Author.Tests.{ltb-true, ltb-false}
use Rattle.bits.specs.Bits.{bits_of}
use Rattle.bits.proofs.BitRanges.{length_bits}
use Rattle.bits.proofs.Truth.{cases}
use Rattle.slow_fields.specs.Slow.{length_of}
use Rattle.orders.specs.declared.Order.{Order}
use Rattle.orders.specs.Fields.{is_frame_kind, uses_value, value_width}
use Rattle.orders.specs.Streams.{field5_bits, command_bits}
use Rattle.stream_writer.proofs.Rests.{number_length}
use Rattle.composing.specs.Checked.{ordered}
use Rattle.composing.proofs.FitFields.{repeated_once, eightfold_length, value_length}
use Rattle.composing.proofs.CommandParts.{front_end_field, frame_field, number_field, zeros_field_lem, slow_command}

module _ (o : Order) (lent : List ℕ) where
  slow_width : 32 ≤ o.kind → 17 + length (field5_bits (ordered o lent)) ≡ length (command_bits (ordered o lent))
  slow_width h = omega (arith, ap length (slow_command o lent h))

  pub receiver_width : o.kind ≡ 38 → 17 + o.bits ≡ length (command_bits (ordered o lent))
  receiver_width e =
      let field : length (field5_bits (ordered o lent)) ≡ o.bits = rw e (ap length (repeated_once (bits_of lent 0 o.bits)) ∙ length_bits lent 0 o.bits) in
      omega (arith, slow_width (omega arith), field)

  pub front_end_width : 32 ≤ o.kind → is_frame_kind o.kind ≡ true → (o.kind ≡ 38 → ⊥) → 17 + o.bits * 8 ≡ length (command_bits (ordered o lent))
  front_end_width h e n =
      let frame = ap length (front_end_field o lent n ∙ frame_field o lent e) in
      omega (arith, slow_width h, frame, eightfold_length (bits_of lent 0 o.bits), length_bits lent 0 o.bits)

  pub kept_width : 32 ≤ o.kind → is_frame_kind o.kind ≡ false → 17 + length_of (o.kind - 32) 0 ≡ length (command_bits (ordered o lent))
  kept_width h e =
      let width = value_width o.kind in
      ⊎_elim
      (λ (t : uses_value o.kind ≡ true).
      let field = ap length (number_field o lent e (ltb-true 0 width t)) in
      omega (arith, slow_width h, field, number_length width o.value, value_length o.kind t))
      (λ (f : uses_value o.kind ≡ false).
      let field = ap length (zeros_field_lem o lent e (ltb-false 0 width f)) in
      omega (arith, slow_width h, field, length-replicate {A = ℕ} (length_of (o.kind - 32) 0) 0))
      (cases (uses_value o.kind))
