-- What composing a list of orders answers and writes (document 02, F-2).
-- Assumes nothing.
use Rattle.std.specs.Prelude.{Bool, cond, not, ◌&&◌, List, [], ◌∷◌, ℕ, ◌+◌, ◌*◌, leb, eqb, length}
use Rattle.std.proofs.lemmas.List.Edits.{sets}
use Rattle.limits.specs.Limits.{clock_limit}
use Rattle.records.specs.Records.{kind_slow}
use Rattle.plans.specs.declared.Plan.{Plan}
use Rattle.plans.specs.Plan.{plan_fits}
use Rattle.timing.specs.Table.{zeros_asked}
use Rattle.orders.specs.declared.Order.{Order}
use Rattle.orders.specs.declared.Context.{Context}
use Rattle.orders.specs.Composed.{Composed}
use Rattle.orders.specs.Fields.{Ordered, order_fits}
use Rattle.orders.specs.Streams.{stream_of, packed}

-- What an order goes by: the kind of the command before it, 0 for none, and CNT "as the orders write it".
abbrev pub context : ℕ → ℕ → Context
context last cnt = record { last = last; cnt = cnt }

-- "from 0 at the start"; nothing is asked ahead of the first order.
abbrev pub start : Context
start = context 0 0

-- "It follows CNT as the orders write it .. and 0 again after GlobalResetMCC".
abbrev pub cnt_after : Plan → ℕ → Order → ℕ
cnt_after plan cnt o =
    cond (eqb o.kind (kind_slow 9)) 0
    (cond (eqb o.kind (kind_slow 0) && eqb o.address plan.cnt) o.value cnt)

abbrev pub context_after : Plan → Context → Order → Context
context_after plan c o = context o.kind (cnt_after plan c.cnt o)

-- "Zeros ahead obey document 01's timing, with Slow treated as a Fast when it follows and asking none after itself."
abbrev pub zeros_fit : Context → Order → Bool
zeros_fit c o = leb (zeros_asked c.last o.kind) o.zeros

-- "9 for an unknown command or a used field of the wrong size, 10 for too few zeros"; the bytes are those lent for its frame.
abbrev pub order_number : Context → Order → ℕ → ℕ
order_number c o bytes = cond (order_fits c.cnt o bytes) (cond (zeros_fit c o) 0 10) 9

-- An answer: a refusal's number, 0 for none; the number of the order that was refused, counted from 0; the count of bits.
abbrev pub composed : ℕ → ℕ → ℕ → Composed
composed number order bits = record { number = number; order = order; bits = bits }

-- "order by order": the first refusal, of orders numbered from n on; number 0 where there is none.
unfoldable pub refusal_from : Plan → Context → ℕ → List Ordered → Composed
refusal_from plan c n [] = composed 0 0 0
refusal_from plan c n (x ∷ xs) =
    let number = order_number c x.order (length x.lent) in
    cond (eqb number 0) (refusal_from plan (context_after plan c x.order) (n + 1) xs) (composed number n 0)

-- Number 11 does not apply: the output, of so many bytes, can hold so many bits, and they do not pass 2^48.
abbrev pub room_fits : ℕ → ℕ → Bool
room_fits bits bytes = leb bits clock_limit && leb bits (8 * bytes)

-- The answer, and the output's later contents.
pub record ComposeResult : Type 0 where
  pub answer : Composed
  pub output : List ℕ

abbrev pub compose_result : Composed → List ℕ → ComposeResult
compose_result answer output = record { answer = answer; output = output }

-- Orders that are all fit: "11 when the output cannot hold the whole stream"; else "the answer is the count of bits", and "bytes beyond it are unchanged".
abbrev pub written_of : List ℕ → List ℕ → ComposeResult
written_of bits output =
    cond (room_fits (length bits) (length output)) (compose_result (composed 0 0 (length bits)) (sets output 0 (packed bits)))
    (compose_result (composed 11 0 0) output)

-- "Errors: 1 for the plan; then, order by order, 9 .., 10 ..; last of all, 11 ..; a refusal writes nothing."
unfoldable pub compose_of : Plan → List Ordered → List ℕ → ComposeResult
compose_of plan xs output =
    let refusal = refusal_from plan start 0 xs in
    cond (not (plan_fits plan)) (compose_result (composed 1 0 0) output)
    (cond (eqb refusal.number 0) (written_of (stream_of xs) output)
    (compose_result refusal output))
