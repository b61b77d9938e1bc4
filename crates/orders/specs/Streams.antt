-- The bits of orders, and bits packed into bytes (document 02, F-2; the chip paper's Tables 1-1 and 1-2).
-- Assumes nothing.
use Rattle.std.specs.Prelude.{cond, List, [], ◌∷◌, ◌++◌, ℕ, zero, suc, ◌+◌, ◌*◌, ◌-◌, ◌/◌, ◌%◌, ◌^◌, ltb, eqb, replicate}
use Rattle.bits.specs.Bits.{bits_of}
use Rattle.slow_fields.specs.Slow.{length_of}
use Rattle.records.specs.Records.{kind_fast, kind_slow}
use Rattle.timing.specs.Table.{is_lv1_kind}
use Rattle.orders.specs.declared.Order.{Order}
use Rattle.orders.specs.Fields.{Ordered, is_slow_kind, is_frame_kind, field3, field4, uses_value, value_width}

-- A number in so many bits: "Numbers arrive highest bit first".
abbrev pub number_bits : ℕ → ℕ → List ℕ
number_bits zero n = []
number_bits (suc width) n = n / 2 ^ width % 2 ∷ number_bits width n

abbrev pub zeros : ℕ → List ℕ
zeros n = replicate n 0

-- Each bit so many times.
abbrev pub repeated : ℕ → List ℕ → List ℕ
repeated times [] = []
repeated times (bit ∷ bits) = replicate times bit ++ repeated times bits

-- The frame's bits, and how often each is sent: "with front-end bits eight cycles each".
abbrev pub frame_of : Ordered → List ℕ
frame_of x = bits_of x.lent 0 x.order.bits

abbrev pub times_each : ℕ → ℕ
times_each kind = cond (eqb kind (kind_slow 6)) 1 8

-- Field 4 and Field 5. "Fields that neither the record nor the tray shows are unused and written as zeros".
abbrev pub field4_bits : Order → List ℕ
field4_bits o = number_bits 4 (field4 o)

abbrev pub field_frame : Ordered → List ℕ
field_frame x = repeated (times_each x.order.kind) (frame_of x)

abbrev pub field5_bits : Ordered → List ℕ
field5_bits x =
    let o = x.order in
    cond (is_frame_kind o.kind) (field_frame x)
    (cond (uses_value o.kind) (number_bits (value_width o.kind) o.value)
    (zeros (length_of (field3 o.kind) 0)))

-- The header of a Fast or Slow, the exact LV1, and the body that makes a Slow.
abbrev pub lv1_bits : List ℕ
lv1_bits = number_bits 5 0b11101

abbrev pub header_bits : List ℕ
header_bits = number_bits 5 0b10110

abbrev pub slow_body : List ℕ
slow_body = number_bits 4 0b1011

-- Fields 3, 4 and 5 of a Slow.
abbrev pub slow_fields : Ordered → List ℕ
slow_fields x = number_bits 4 (field3 x.order.kind) ++ (field4_bits x.order ++ field5_bits x)

-- A command's bits.
unfoldable pub command_bits : Ordered → List ℕ
command_bits x =
    let kind = x.order.kind in
    cond (is_lv1_kind kind) lv1_bits
    (cond (is_slow_kind kind) (header_bits ++ (slow_body ++ slow_fields x))
    (header_bits ++ number_bits 4 (kind - kind_fast 0)))

-- With the zeros ahead of it; and the whole stream.
abbrev pub order_bits : Ordered → List ℕ
order_bits x = zeros x.order.zeros ++ command_bits x

unfoldable pub stream_of : List Ordered → List ℕ
stream_of [] = []
stream_of (x ∷ xs) = order_bits x ++ stream_of xs

-- Bits in bytes, "the highest bit comes first": behind so many bits of a byte, held as a number. "The last byte is filled up with zeros".
abbrev pub packed_from : ℕ → ℕ → List ℕ → List ℕ
packed_from held filled [] = cond (eqb filled 0) [] (held * 2 ^ (8 - filled) ∷ [])
packed_from held filled (bit ∷ bits) =
    cond (ltb filled 7) (packed_from (held * 2 + bit) (filled + 1) bits) ((held * 2 + bit) ∷ packed_from 0 0 bits)

abbrev pub packed : List ℕ → List ℕ
packed bits = packed_from 0 0 bits
