-- The stream of any orders is of bits, each 0 or 1.
-- Assumes nothing.
use mathlib.Core.List.{List, [], ◌∷◌, ◌++◌}
use mathlib.Core.Path.{◌≡◌, ◌∙◌, subst}
use Prim.Native.Nat.{ℕ, zero, suc, ◌*◌, ◌-◌, ◌/◌, ◌%◌, ◌^◌, ◌<◌}
use native.Mathlib.Nat.{suc-mul}
use native.Mathlib.Omega.{arith}
use lib.Dec.{T, ltb, ltb→lt, lt→ltb}
use lib.ListN.{length, replicate, length-append, length-replicate}
use lib.Seq.{take-length}
use Rattle.bits.proofs.Truth.{and_both, and_left, and_right, choice}
use Rattle.bits.proofs.BitRanges.{binary, binary_append, bits_binary, length_bits}
use Rattle.slow_fields.specs.Slow.{length_of}
use Rattle.records.specs.Records.{kind_fast}
use Rattle.timing.specs.Table.{is_lv1_kind}
use Rattle.orders.specs.Fields.{Ordered, is_slow_kind, is_frame_kind, field3, field4, uses_value, value_width}
use Rattle.orders.specs.Streams.{number_bits, zeros, repeated, frame_of, times_each, field4_bits, field5_bits}
use Rattle.orders.specs.Streams.{command_bits, order_bits, stream_of}

pub number_binary : (width n : ℕ) → T (binary (number_bits width n))
number_binary zero n = tt
number_binary (suc width) n = and_both (ltb (n / 2 ^ width % 2) 2) _ (lt→ltb (n / 2 ^ width % 2) 2 (omega arith)) (number_binary width n)

same_binary : (times bit : ℕ) → bit < 2 → T (binary (replicate times bit))
same_binary zero bit low = tt
same_binary (suc times) bit low = and_both (ltb bit 2) _ (lt→ltb bit 2 low) (same_binary times bit low)

pub repeated_binary : (times : ℕ) (bits : List ℕ) → T (binary bits) → T (binary (repeated times bits))
repeated_binary times [] b = tt
repeated_binary times (bit ∷ bits) b =
    binary_append (replicate times bit) (repeated times bits) (same_binary times bit (ltb→lt bit 2 (and_left (ltb bit 2) (binary bits) b)))
    (repeated_binary times bits (and_right (ltb bit 2) (binary bits) b))

pub repeated_length : (times : ℕ) (bits : List ℕ) → length (repeated times bits) ≡ length bits * times
repeated_length times [] = omega arith
repeated_length times (bit ∷ bits) =
    let rest = repeated_length times bits in
    length-append (replicate times bit) (repeated times bits) ∙ rw (length-replicate times bit, rest, suc-mul (length bits) times) (omega arith)

pub frame_binary : (x : Ordered) → T (binary (frame_of x))
frame_binary x =
    let bits : List ℕ = frame_of x in
    subst (λ (l : List ℕ). T (binary l)) (take-length bits) (bits_binary x.lent (length bits) x.order.bits 0)

pub frame_length : (x : Ordered) → length (frame_of x) ≡ x.order.bits
frame_length x = length_bits x.lent 0 x.order.bits

field5_binary : (x : Ordered) → T (binary (field5_bits x))
field5_binary x =
    let o = x.order in
    choice (λ (l : List ℕ). T (binary l)) (is_frame_kind o.kind) (λ _. repeated_binary (times_each o.kind) (frame_of x) (frame_binary x))
    (λ _. choice (λ (l : List ℕ). T (binary l)) (uses_value o.kind) (λ _. number_binary (value_width o.kind) o.value)
    (λ _. same_binary (length_of (field3 o.kind) 0) 0 (omega arith)))

command_binary : (x : Ordered) → T (binary (command_bits x))
unfolding command_bits
command_binary x =
    let kind = x.order.kind in
    let fields : List ℕ = field4_bits x.order ++ field5_bits x in
    let address = number_binary 4 (field4 x.order) in
    let slow = binary_append (number_bits 4 (field3 kind)) fields (number_binary 4 (field3 kind))
    (binary_append (field4_bits x.order) (field5_bits x) address (field5_binary x)) in
    choice (λ (l : List ℕ). T (binary l)) (is_lv1_kind kind) (λ _. tt)
    (λ _. choice (λ (l : List ℕ). T (binary l)) (is_slow_kind kind) (λ _. slow) (λ _. number_binary 4 (kind - kind_fast 0)))

pub stream_binary : (xs : List Ordered) → T (binary (stream_of xs))
unfolding stream_of
stream_binary [] = tt
stream_binary (x ∷ xs) =
    binary_append (order_bits x) (stream_of xs)
    (binary_append (zeros x.order.zeros) (command_bits x) (same_binary x.order.zeros 0 (omega arith)) (command_binary x)) (stream_binary xs)
