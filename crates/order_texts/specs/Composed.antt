-- What the program `compose` makes of the characters of its input, at once (document 02, F-2; the text of orders is ours).
-- Assumes nothing.
use Rattle.std.specs.Prelude.{cond, List, ℕ, eqb, length}
use Rattle.orders.specs.Streams.{stream_of, packed}
use Rattle.orders.specs.Composing.{start, room_fits}
use Rattle.line_meanings.specs.Lines.{lines_of}
use Rattle.gathered_lines.specs.Gathering.{line_texts}
use Rattle.order_refusals.specs.Refusals.{no_refusal, refusal_in, orders_in}
use Rattle.compositions.specs.Compositions.{output_limit, Composed, composed, refused_with, too_long}

-- Last of all 11, when the output cannot hold the whole stream.
unfoldable pub written_of : List ℕ → Composed
written_of bits = cond (room_fits (length bits) output_limit) (composed no_refusal (packed bits)) too_long

-- The whole program: line by line 9, then 10; last of all 11.
unfoldable pub composed_of : List ℕ → Composed
composed_of characters =
    let texts = line_texts (lines_of characters) in
    let first = refusal_in start 0 texts in
    cond (eqb first.number 0) (written_of (stream_of (orders_in texts))) (refused_with first)
