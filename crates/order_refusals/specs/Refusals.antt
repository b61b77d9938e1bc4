-- Why a line of a text of orders is refused, and what standard error gets of it (document 02, F-2; the text is ours).
-- Assumes nothing.
use Rattle.std.specs.Prelude.{cond, List, [], ◌∷◌, ℕ, ◌+◌, ◌%◌, ◌^◌, Option, Some, None, eqb, length}
use Rattle.plans.specs.Plan.{default_plan}
use Rattle.timing.specs.Table.{zeros_asked}
use Rattle.orders.specs.declared.Order.{Order}
use Rattle.orders.specs.declared.Context.{Context}
use Rattle.orders.specs.Fields.{Ordered, frame_count}
use Rattle.orders.specs.Composing.{context_after, order_number}
use Rattle.order_lines.specs.Lines.{LineMeaning, line_meaning}
use Rattle.gathered_lines.specs.Gathering.{LineText}
use Rattle.order_messages.specs.OrderSentences.{order_sentence}
use Rattle.order_messages.specs.declared.Reason.{Reason}
use Rattle.order_messages.specs.declared.Reason.TheVariants.{FewZeros}
use Rattle.order_messages.specs.OrderSentences.{reason_number, asked_of, given_of}
use Rattle.order_refusals.specs.declared.Refusal.{Refusal}
use Rattle.order_refusals.specs.declared.Refusal.TheVariants.{Line, LongStream}

-- A refusal in numbers: its own, 0 for none; the line's number from 1, 0 for the whole stream; the reason for the message, and the two numbers that some
-- reasons have.
pub record Refused : Type 0 where
  pub number : ℕ
  pub line : ℕ
  pub reason : ℕ
  pub asked : ℕ
  pub given : ℕ

abbrev pub refusal : ℕ → ℕ → ℕ → ℕ → ℕ → Refused
refusal number line reason asked given = record { number = number; line = line; reason = reason; asked = asked; given = given }

abbrev pub no_refusal : Refused
no_refusal = refusal 0 0 0 0 0

-- The reasons beside those of `order_lines`: another count of frame bits than CNT's, a line that is too long, too few zeros, a stream that is too long.
abbrev pub other_bits : ℕ
other_bits = 4

abbrev pub long_line : ℕ
long_line = 5

abbrev pub few_zeros : ℕ
few_zeros = 6

abbrev pub long_stream : ℕ
long_stream = 7

-- An order on line n that is read: number 9, which only its frame's bits can still give, then 10.
unfoldable pub order_refusal : Context → ℕ → Order → ℕ → Refused
order_refusal c n o bytes =
    let number = order_number c o bytes in
    cond (eqb number 0) no_refusal
    (cond (eqb number 9) (refusal 9 n other_bits (frame_count o.kind c.cnt) o.bits)
    (refusal number n few_zeros (zeros_asked c.last o.kind) o.zeros))

-- By what line n means: nothing, a reason, or an order.
unfoldable pub meaning_refusal : Context → ℕ → LineMeaning → Refused
meaning_refusal c n m =
    cond (eqb m.reason 0) (cond m.blank no_refusal (order_refusal c n m.order (length m.lent)))
    (refusal 9 n m.reason 0 0)

-- A line of more than 32,768 characters is number 9, whatever stands in it.
unfoldable pub line_refusal : Context → ℕ → LineText → Refused
line_refusal c n t = cond t.long (refusal 9 n long_line 0 0) (meaning_refusal c n (line_meaning t.text))

-- What a line leaves to the next, and its order, if it has one.
abbrev pub meaning_context : Context → LineMeaning → Context
meaning_context c m = cond m.blank c (context_after default_plan c m.order)

abbrev pub ordered : Order → List ℕ → Ordered
ordered o lent = record { order = o; lent = lent }

abbrev pub meaning_orders : LineMeaning → List Ordered → List Ordered
meaning_orders m xs = cond m.blank xs (ordered m.order m.lent ∷ xs)

-- "the line's number from 1", counted in 64 bits.
abbrev pub next_line_number : ℕ → ℕ
next_line_number n = (n + 1) % 2 ^ 64

-- Line by line: the first refusal, behind n lines; number 0 where there is none.
unfoldable pub refusal_in : Context → ℕ → List LineText → Refused
refusal_in c n [] = no_refusal
refusal_in c n (t ∷ ts) =
    let m = next_line_number n in
    let r = line_refusal c m t in
    cond (eqb r.number 0) (refusal_in (meaning_context c (line_meaning t.text)) m ts) r

-- The orders of lines, none of which is refused.
unfoldable pub orders_in : List LineText → List Ordered
orders_in [] = []
orders_in (t ∷ ts) = meaning_orders (line_meaning t.text) (orders_in ts)

-- What standard error gets of a refusal.
abbrev pub message_of : Refused → List ℕ
message_of r = order_sentence r.reason r.line r.asked r.given

-- A refusal as the code has it, in numbers.
abbrev pub number_by : Reason → ℕ
number_by (FewZeros asked given) = 10
number_by _ = 9

abbrev pub refused : Refusal → Refused
refused (Line n reason) = refusal (number_by reason) n (reason_number reason) (asked_of reason) (given_of reason)
refused LongStream = refusal 11 0 long_stream 0 0

abbrev pub refused_if : Option Refusal → Refused
refused_if None = no_refusal
refused_if (Some r) = refused r
