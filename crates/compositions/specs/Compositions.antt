-- A run of `compose` under way: what it holds, what is still composed of the lines to come, and its outcome.
-- Assumes nothing.
use Rattle.std.specs.Prelude.{◌≡◌, true, cond, List, [], ◌++◌, ℕ, ◌+◌, ◌/◌, ◌≤◌, Option, None, Result, Ok, Err, IfOk, eqb, length, take}
use Rattle.std.proofs.lemmas.List.Edits.{sets}
use Rattle.plans.specs.Plan.{default_plan}
use Rattle.orders.specs.declared.Order.{Order}
use Rattle.orders.specs.Streams.{order_bits, stream_of, packed_from}
use Rattle.orders.specs.Composing as orders
use Rattle.orders.specs.Composing.{context_after, room_fits}
use Rattle.stream_writer.specs.Writer as writer
use Rattle.stream_writer.specs.Writer.{place_of, Fits}
use Rattle.text_words.specs.Words.{line_limit}
use Rattle.gathered_lines.specs.Gathering.{LineText, empty_line}
use Rattle.order_refusals.specs.declared.Refusal.{Refusal}
use Rattle.order_refusals.specs.Refusals.{Refused, refusal, no_refusal, long_stream, refused, refused_if, ordered, order_refusal, refusal_in, orders_in}
use Rattle.compositions.specs.declared.Composition.{Composition}

-- The most bytes of a stream that the program composes.
abbrev pub output_limit : ℕ
output_limit = 1048576

-- A refusal, or the bytes of the stream.
pub record Composed : Type 0 where
  pub refusal : Refused
  pub bytes : List ℕ

abbrev pub composed : Refused → List ℕ → Composed
composed r bytes = record { refusal = r; bytes = bytes }

abbrev pub refused_with : Refused → Composed
refused_with r = composed r []

abbrev pub too_long : Composed
too_long = refused_with (refusal 11 0 long_stream 0 0)

abbrev pub start : Composition
start = record { context = orders.start; writer = writer.start; bits = 0; line = empty_line; lines = 0; refusal = None }

-- A line has ended, with a refusal or none, and leaves nothing to the stream.
abbrev pub passed_with : Composition → ℕ → Option Refusal → Composition
passed_with s lines r = record { context = s.context; writer = s.writer; bits = s.bits; line = empty_line; lines = lines; refusal = r }

-- What stands in the output, if the stream ends after so many bits.
abbrev pub end_of : ℕ → List ℕ → Composed
end_of bits out = cond (room_fits bits output_limit) (composed no_refusal (take ((bits + 7) / 8) out)) too_long

-- If it ends with these bits more.
abbrev pub end_with : Composition → List ℕ → List ℕ → Composed
end_with s out more = end_of (s.bits + length more) (sets out s.writer.at (packed_from s.writer.held s.writer.filled more))

-- With these lines more, ahead of a first refusal among them.
abbrev pub unless_refused : Refused → Composed → Composed
unless_refused r c = cond (eqb r.number 0) c (refused_with r)

unfoldable pub with_lines : Composition → List ℕ → List LineText → Composed
with_lines s out texts = unless_refused (refusal_in s.context s.lines texts) (end_with s out (stream_of (orders_in texts)))

-- What is composed in the end, given the lines that are still to come. A refusal stays.
unfoldable pub still_lines : Composition → List ℕ → List LineText → Composed
still_lines s out texts = unless_refused (refused_if s.refusal) (with_lines s out texts)

-- What each run has, with the output lent to it.
pub record WellFormed (s : Composition) (out : List ℕ) : Type 0 where
  pub fits : Fits s.writer
  pub placed : room_fits s.bits output_limit ≡ true → place_of s.writer ≡ s.bits
  pub short : s.line.length ≤ line_limit
  pub whole : length out ≡ output_limit

-- An order on line n, with the lines behind it.
unfoldable pub order_and : Composition → List ℕ → ℕ → Order → List ℕ → List LineText → Composed
order_and s out n o lent texts =
    unless_refused (order_refusal s.context n o (length lent))
    (unless_refused (refusal_in (context_after default_plan s.context o) n texts) (end_with s out (order_bits (ordered o lent) ++ stream_of (orders_in texts))))

pub record AddsOrder (s : Composition) (out : List ℕ) (n : ℕ) (o : Order) (lent : List ℕ) (r : Composition) (now : List ℕ) : Type 0 where
  pub well_formed : WellFormed r now
  pub fresh : r.line ≡ empty_line
  pub same : (texts : List LineText) → still_lines r now texts ≡ order_and s out n o lent texts

-- What is composed if the run ends here, after a line's end.
unfoldable pub composition_of : Composition → List ℕ → Composed
composition_of s out = unless_refused (refused_if s.refusal) (end_with s out [])

-- The outcome of a run, with the output's later contents.
abbrev pub outcome_of : Result ℕ Refusal → List ℕ → Composed
outcome_of (Ok bytes) now = composed no_refusal (take bytes now)
outcome_of (Err r) now = refused_with (refused r)

abbrev pub outcome_number : Result ℕ Refusal → ℕ
outcome_number (Ok bytes) = 0
outcome_number (Err r) = (refused r).number

pub record Finishes (s : Composition) (out : List ℕ) (r : Result ℕ Refusal) (now : List ℕ) : Type 0 where
  pub same : outcome_of r now ≡ composition_of s out
  pub within : IfOk r (λ bytes. bytes ≤ output_limit)
  pub long : length now ≡ output_limit
