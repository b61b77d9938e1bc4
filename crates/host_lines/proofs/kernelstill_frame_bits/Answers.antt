-- `kernelstill_frame_bits` asks for the kind, then for the count.
-- Assumes nothing.
use mathlib.Core.Bool.{Bool, cond}
use mathlib.Core.Path.{ap, ◌∙◌}
use Rattle.records.specs.Records.{kind_of, frame_bits_of}
use Rattle.host_lines.proofs.kernelstill_frame_bits.Goals as goal

pub returns-then-is_frame_head : goal.returns-then-is_frame_head
returns-then-is_frame_head c =
    let a = c.args in
    c.frame_bits.ensures ∙ ap (λ (b : Bool). cond b (frame_bits_of (kind_of a.head) a.value) 0) c.if-is_frame_head.ensures

pub returns : goal.returns
returns c =
    let a = c.args in
    ap (λ (b : Bool). cond b (frame_bits_of (kind_of a.head) a.value) 0) c.if-is_frame_head.ensures
