-- `read_line` meets its contract: a buffer with too little room is refused.
-- Assumes nothing.
use native.Mathlib.Omega.{arith}
use lib.ListN.{length}
use Rattle.std.proofs.lemmas.Result.{err_from_is_err_and}
use borrow.Author.Tests.{lt-ltb, le-ltb}
use Rattle.line_meanings.specs.Line.{line_bytes, read_into}
use Rattle.hexlines.proofs.read_line.Goals as goal

pub returns-then-bytes-lt-LINE_BYTES : goal.returns-then-bytes-lt-LINE_BYTES
unfolding read_into
returns-then-bytes-lt-LINE_BYTES c = simp (lt-ltb (length c.args.bytes.now) line_bytes (omega arith))

pub returns-in_err-count : goal.returns-in_err-count
unfolding read_into
returns-in_err-count c =
    let p = err_from_is_err_and c.from_residual.result c.from_residual.ensures.1 in
    rw (p.1, p.2) (simp (le-ltb _ _ c.if-bytes-lt-LINE_BYTES.false) c.in_err-count.ensures)

pub returns : goal.returns
unfolding read_into
returns c = simp (le-ltb _ _ c.if-bytes-lt-LINE_BYTES.false) c.in_ok-count.ensures
