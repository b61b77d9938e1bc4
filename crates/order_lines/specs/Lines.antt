-- What a line of a text of orders means: nothing, an order, or why it is none (document 02, F-2; the text is ours).
-- Assumes nothing.
use Rattle.std.specs.Prelude.{Bool, true, false, cond, ◌||◌, List, [], ◌≡◌, ℕ, ◌+◌, ◌≤◌}
use Rattle.std.specs.Prelude.{Option, Some, None, Result, Ok, Err, IfSome, IfOk, eqb, length, get_or, take}
use Rattle.orders.specs.declared.Order.{Order}
use Rattle.orders.specs.Fields.{order}
use Rattle.text_words.specs.Words.{line_limit, words_in, words_of}
use Rattle.text_frames.specs.Frames.{frame_limit, Frame}
use Rattle.command_names.specs.Names.{kind_named, field_count}
use Rattle.order_fields.specs.Fields.{address_field, value_field, frame_field, zeros_field}
use Rattle.order_lines.specs.declared.LineOrder.{LineOrder}
use Rattle.order_lines.specs.declared.LineFault.{LineFault}
use Rattle.order_lines.specs.declared.LineFault.TheVariants.{UnknownName, OtherCount, WrongField}

-- A line without words; the reason why one is no order, 0 for none; its order, whose frame is the bytes lent here.
pub record LineMeaning : Type 0 where
  pub blank : Bool
  pub reason : ℕ
  pub order : Order
  pub lent : List ℕ

abbrev pub no_order : Order
no_order = order 0 0 0 0 0 0

abbrev pub blank_line : LineMeaning
blank_line = record { blank = true; reason = 0; order = no_order; lent = [] }

abbrev pub wrong_line : ℕ → LineMeaning
wrong_line reason = record { blank = false; reason = reason; order = no_order; lent = [] }

-- The reasons, in the order in which they are looked for.
abbrev pub unknown_name : ℕ
unknown_name = 1

abbrev pub other_count : ℕ
other_count = 2

abbrev pub wrong_field : ℕ
wrong_field = 3

-- An order of its fields; one of them wrong is the third reason.
abbrev pub order_line : ℕ → Option ℕ → Option ℕ → Option ℕ → Frame → LineMeaning
order_line kind (Some ahead) (Some address) (Some value) frame =
    cond frame.right (record { blank = false; reason = 0; order = order kind ahead address value 0 frame.bits; lent = frame.bytes }) (wrong_line wrong_field)
order_line kind (Some ahead) (Some address) None frame = wrong_line wrong_field
order_line kind (Some ahead) None value frame = wrong_line wrong_field
order_line kind None address value frame = wrong_line wrong_field

unfoldable pub fields_meaning : ℕ → List (List ℕ) → LineMeaning
fields_meaning kind words =
    order_line kind (zeros_field (field_count kind) words) (address_field kind words) (value_field kind words) (frame_field kind words)

-- The name and its fields, or one word more, the zeros ahead; any other count is another.
abbrev pub count_fits : ℕ → ℕ → Bool
count_fits fields count = eqb count (1 + fields) || eqb count (2 + fields)

unfoldable pub words_meaning : List (List ℕ) → LineMeaning
words_meaning words =
    let kind = kind_named (get_or words 0 []) in
    cond (eqb (length words) 0) blank_line
    (cond (eqb kind 0) (wrong_line unknown_name)
    (cond (count_fits (field_count kind) (length words)) (fields_meaning kind words) (wrong_line other_count)))

abbrev pub line_meaning : List ℕ → LineMeaning
line_meaning line = words_meaning (words_of line)

-- What a call that reads a line answers, with the bytes that it then lends.
abbrev pub reason_of : LineFault → ℕ
reason_of UnknownName = unknown_name
reason_of OtherCount = other_count
reason_of WrongField = wrong_field

abbrev pub meant : Result (Option LineOrder) LineFault → List ℕ → LineMeaning
meant (Ok None) buffer = blank_line
meant (Ok (Some r)) buffer = record { blank = false; reason = 0; order = r.order; lent = take r.bytes buffer }
meant (Err fault) buffer = wrong_line (reason_of fault)

-- Of a line's fields, where one is wrong if nothing is read.
abbrev pub fields_read : Option LineOrder → Result (Option LineOrder) LineFault
fields_read None = Err WrongField
fields_read (Some r) = Ok (Some r)

pub record ReadAs (meaning : LineMeaning) (buffer : List ℕ) (r : Result (Option LineOrder) LineFault) : Type 0 where
  pub same : meant r buffer ≡ meaning
  pub within : IfOk r (λ o. IfSome o (λ x. x.bytes ≤ frame_limit))
  pub long : length buffer ≡ frame_limit

-- What reading the fields asks: a kind with its count of fields, and the count of words.
pub record FieldsAsked (text : List ℕ) (kind fields count : ℕ) (buffer : List ℕ) : Type 0 where
  pub fields_told : fields ≡ field_count kind
  pub few : fields ≤ 3
  pub counted : count ≡ length (words_in text)
  pub short : length text ≤ line_limit
  pub long : length buffer ≡ frame_limit
