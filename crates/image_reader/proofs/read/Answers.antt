-- `read` makes the state of its parts, each as its own function reads it.
-- Assumes nothing.
use Rattle.image_fields.specs.Image.{state_of}
use Rattle.image_reader.proofs.read.Goals as goal

pub returns : goal.returns
unfolding state_of
returns c =
    let m = c in
    let p = m in
    rw (
      c.earlier_at.ensures,
      m.model_at.ensures,
      m.recogniser_at.ensures,
      p.plan_at.ensures,
      p.u8_at-2.ensures,
      p.u8_at.ensures,
      p.u16_at-registers.ensures,
      p.phase_of-phase.ensures,
    )
