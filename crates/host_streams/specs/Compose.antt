-- What the library answers for a list of orders: a number, and the count of bits or an order's number, in one word (ours).
-- Assumes nothing.
use Rattle.std.specs.Prelude.{cond, List, ℕ, ◌+◌, ◌*◌, ◌%◌, ◌^◌, eqb}
use Rattle.orders.specs.Composed.{Composed}
use Rattle.orders.specs.Fields.{orders_in}
use Rattle.orders.specs.Composing.{ComposeResult, compose_of}
use Rattle.host_plans.specs.Plans.{plan_of}

-- It stands above the number, which is below 256, by its low 56 bits: no stream has more, and no memory holds more orders.
abbrev pub compose_word : Composed → ℕ
compose_word a = cond (eqb a.number 0) a.bits a.order % 2 ^ 56 * 256 + a.number

-- The word, and the output's later contents.
pub record ComposeWords : Type 0 where
  pub word : ℕ
  pub output : List ℕ

abbrev pub compose_words : ℕ → List ℕ → ComposeWords
compose_words word output = record { word = word; output = output }

abbrev pub words_of : ComposeResult → ComposeWords
words_of r = compose_words (compose_word r.answer) r.output

unfoldable pub compose_words_of : ℕ → ℕ → ℕ → ℕ → List ℕ → List ℕ → List ℕ → ComposeWords
compose_words_of mask csr feen cnt orders frames output = words_of (compose_of (plan_of mask csr feen cnt) (orders_in frames orders) output)
