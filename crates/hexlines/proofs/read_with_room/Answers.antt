-- `read_with_room` meets its contract: the whole line, read character by character, means what the line means, and its bytes are copied.
-- Assumes nothing.
use mathlib.Core.List.{List}
use mathlib.Core.Path.{◌≡◌, ap, ◌∙◌}
use Prim.Native.Nat.{ℕ}
use Rattle.std.proofs.lemmas.Result.{err_from_is_err_and}
use Rattle.output.specs.Block.{Block}
use Rattle.line_meanings.specs.declared.LineSoFar.{LineSoFar}
use Rattle.line_meanings.specs.Lines.{empty_line, with_characters}
use Rattle.line_meanings.proofs.Meaning.{count_limit, line_read_lem}
use Rattle.hexlines.proofs.read_with_room.Goals as goal

-- all of the line is read
whole_read : (line : List ℕ) (none whole : LineSoFar) → whole ≡ with_characters none line → none ≡ empty_line → whole ≡ with_characters empty_line line
whole_read line none whole e f = e ∙ ap (λ (s : LineSoFar). with_characters s line) f

pub shared_ref_as_front-put_bytes : goal.shared_ref_as_front-put_bytes
shared_ref_as_front-put_bytes c =
    count_limit c.args.line.now _ (whole_read _ _ _ c.with_characters-read.ensures c.empty.ensures) _ c.in_ok-count.ensures

pub returns-in_err-count : goal.returns-in_err-count
returns-in_err-count c =
    let p = err_from_is_err_and c.from_residual.result c.from_residual.ensures.1 in
    rw (p.1, p.2)
    (line_read_lem c.args.line.now _ (whole_read _ _ _ c.with_characters-read.ensures c.empty.ensures) _ c.in_err-count.ensures c.args.bytes.now)

pub returns : goal.returns
returns c =
    rw (ap (λ (b : Block). b.bytes) c.put_bytes.ensures)
    (line_read_lem c.args.line.now _ (whole_read _ _ _ c.with_characters-read.ensures c.empty.ensures) _ c.in_ok-count.ensures c.args.bytes.now)
