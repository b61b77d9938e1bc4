-- An order: a command by its kind, its fields, the zeros ahead of it, and the bytes lent for its frame; whether it is fit (document 02, F-2).
-- Assumes nothing.
use Rattle.std.specs.Prelude.{Bool, true, cond, ◌&&◌, ◌||◌, List, [], ◌∷◌, ℕ, zero, suc, ◌+◌, ◌*◌, ◌-◌, ◌/◌, ◌^◌, ltb, leb, eqb, length, get_or, drop}
use Rattle.windows.specs.Windows.{is_fast}
use Rattle.slow_fields.specs.Slow.{is_slow, data_bits, control_bits, receiver_bits}
use Rattle.records.specs.Records.{kind_fast, kind_slow}
use Rattle.timing.specs.Table.{is_lv1_kind}
use Rattle.orders.specs.declared.Order.{Order}

-- An order, and the bytes lent for its frame, from its place on.
pub record Ordered : Type 0 where
  pub order : Order
  pub lent : List ℕ

-- A Slow's kind, and its Field 3.
abbrev pub is_slow_kind : ℕ → Bool
is_slow_kind kind = leb (kind_slow 0) kind

abbrev pub field3 : ℕ → ℕ
field3 kind = kind - kind_slow 0

-- The kinds of the exact LV1, of BCR, ECR, CAL and SYNC, and of the Slow commands; all others are "an unknown command", a bad Fast and a bad Slow too.
abbrev pub is_known : ℕ → Bool
is_known kind =
    is_lv1_kind kind
    || cond (is_slow_kind kind) (is_slow (field3 kind)) (leb (kind_fast 0) kind && is_fast (kind - kind_fast 0))

-- WrFrontEnd, RdFrontEnd and WrReceiver carry a frame.
abbrev pub is_frame_kind : ℕ → Bool
is_frame_kind kind = leb (kind_slow 4) kind && leb kind (kind_slow 6)

-- "Fields that neither the record nor the tray shows are unused": used are the address of WrRegister, RdRegister and RdFifo,
abbrev pub uses_address : ℕ → Bool
uses_address kind = eqb kind (kind_slow 0) || (eqb kind (kind_slow 1) || eqb kind (kind_slow 3))

abbrev pub field4 : Order → ℕ
field4 o = cond (uses_address o.kind) o.address 0

-- the bits of Field 5 of WrRegister, WrFifo and GlobalResetFE,
abbrev pub value_width : ℕ → ℕ
value_width kind = cond (eqb kind (kind_slow 0)) 16 (cond (eqb kind (kind_slow 2)) 27 (cond (eqb kind (kind_slow 10)) 4 0))

abbrev pub uses_value : ℕ → Bool
uses_value kind = ltb 0 (value_width kind)

-- and a frame's bits, as many as CNT asks: "a variable field must have exactly that length".
abbrev pub frame_count : ℕ → ℕ → ℕ
frame_count kind cnt = cond (eqb kind (kind_slow 6)) (receiver_bits cnt) (data_bits cnt + control_bits cnt)

-- "a used field of the wrong size"; of an unused one nothing is asked. The frame's bits are those that the order says, and as many are lent, of so many
-- bytes.
abbrev pub address_fits : Order → Bool
address_fits o = cond (uses_address o.kind) (ltb o.address 16) true

abbrev pub value_fits : Order → Bool
value_fits o = cond (uses_value o.kind) (ltb o.value (2 ^ value_width o.kind)) true

abbrev pub frame_fits : ℕ → Order → ℕ → Bool
frame_fits cnt o bytes = cond (is_frame_kind o.kind) (eqb o.bits (frame_count o.kind cnt) && leb o.bits (8 * bytes)) true

-- Number 9 does not apply.
unfoldable pub order_fits : ℕ → Order → ℕ → Bool
order_fits cnt o bytes = is_known o.kind && (address_fits o && (value_fits o && frame_fits cnt o bytes))

abbrev pub order : ℕ → ℕ → ℕ → ℕ → ℕ → ℕ → Order
order kind zeros address value frame bits =
    record { kind = kind; zeros = zeros; address = address; value = value; frame = frame; bits = bits }

-- An order as six words: kind, zeros ahead, address, value, the first byte of its frame and the count of the frame's bits. Fewer words are no command.
abbrev pub order_words : ℕ
order_words = 6

unfoldable pub order_in : List ℕ → Order
order_in words =
    cond (ltb (length words) order_words) (order 0 0 0 0 0 0)
    (order (get_or words 0 0) (get_or words 1 0) (get_or words 2 0) (get_or words 3 0) (get_or words 4 0) (get_or words 5 0))

abbrev pub ordered_with : List ℕ → Order → Ordered
ordered_with frames o = record { order = o; lent = drop o.frame frames }

-- A list of them: so many, and all that some words hold.
unfoldable pub orders_from : ℕ → List ℕ → List ℕ → List Ordered
orders_from zero frames words = []
orders_from (suc n) frames words = ordered_with frames (order_in words) ∷ orders_from n frames (drop order_words words)

abbrev pub orders_in : List ℕ → List ℕ → List Ordered
orders_in frames words = orders_from ((length words + (order_words - 1)) / order_words) frames words
