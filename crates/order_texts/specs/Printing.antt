-- What the program `compose` prints (ours).
-- Assumes nothing.
use Rattle.std.specs.Prelude.{cond, List, ℕ, eqb}
use Rattle.layout.specs.ListingLines.{refused_line}
use Rattle.stream_lines.specs.StreamLines.{stream_text}
use Rattle.compositions.specs.Compositions.{Composed}

-- A refusal prints its one line, and no digits.
unfoldable pub text_of : Composed → List ℕ
text_of r = cond (eqb r.refusal.number 0) (stream_text r.bytes) (refused_line r.refusal.number r.refusal.line)
