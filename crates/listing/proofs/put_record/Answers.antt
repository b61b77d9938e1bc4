-- `put_record` meets its contract: the record's line, and the frame's where there is one.
-- Assumes nothing.
use mathlib.Core.Bool.{Bool, true, false, ◌&&◌}
use mathlib.Core.Path.{◌≡◌, ap, sym, ◌∙◌}
use borrow.Author.Tests.{eq-eqb, ne_eqb}
use Prim.Native.Nat.{ℕ}
use Rattle.records.specs.Records.{is_frame_head}
use Rattle.listing.proofs.Records.{without_frame, with_frame}
use Rattle.listing.proofs.put_record.Goals as goal

-- whether the record is a frame's that is printed
decided : (frames r : Bool) (head : ℕ) → r ≡ is_frame_head head → (b : Bool) → (frames && r) ≡ b → (frames && is_frame_head head) ≡ b
decided frames r head f b e = ap (λ (h : Bool). frames && h) (sym f) ∙ e

pub returns-then-not-frames-is_frame_head : goal.returns-then-not-frames-is_frame_head
returns-then-not-frames-is_frame_head c =
    without_frame _ _ _ _ _ _ c.requires _ _ c.record_line-place.ensures
    (simp (decided c.args.frames c.is_frame_head.result c.args.head c.is_frame_head.ensures false c.if-not-frames-is_frame_head.true))

pub returns-then-bits-eq0 : goal.returns-then-bits-eq0
returns-then-bits-eq0 c =
    let none = eq-eqb _ _ (sym c.frame_bits-bits.ensures ∙ c.if-bits-eq0.true) in
    without_frame _ _ _ _ _ _ c.requires _ _ c.record_line-place.ensures
    (simp (decided c.args.frames c.is_frame_head.result c.args.head c.is_frame_head.ensures true c.if-not-frames-is_frame_head.false, none))

pub returns : goal.returns
returns c =
    let bits = c.frame_bits-bits.ensures in
    let some = ne_eqb _ _ (λ z. c.if-bits-eq0.false (bits ∙ z)) in
    let line = rw (c.frame_part.ensures, bits) at c.frame_line.ensures in
    with_frame _ _ _ _ _ _ c.requires _ _ c.record_line-place.ensures _ _ _
    (simp (decided c.args.frames c.is_frame_head.result c.args.head c.is_frame_head.ensures true c.if-not-frames-is_frame_head.false, some))
    line
