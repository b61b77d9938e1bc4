-- `kernelstill_open` is the opening of the plan of four numbers, with its state as an image.
-- Assumes nothing.
use mathlib.Core.List.{List}
use mathlib.Core.Path.{◌≡◌, ap, ◌∙◌}
use Prim.Native.Nat.{ℕ}
use lib.ListN.{length}
use Rattle.plans.specs.declared.Plan.{Plan}
use Rattle.decoder.specs.declared.Opened.{Opened}
use Rattle.decoder.specs.Opening.{open_of}
use Rattle.calls.proofs.SoundnessKept.{start_sound}
use Rattle.image_fields.specs.Image.{image_length, image_of, state_of}
use Rattle.host_plans.specs.Plans.{plan_of}
use Rattle.host_opening.specs.Open.{opened_into, open_result_of}
use Rattle.host_opening.specs.Holding.{Holds}
use Rattle.host_opening.proofs.OpenCases.{filled, no_room, no_room_refused}
use Rattle.host_opening.proofs.Holding.{holds}
use Rattle.host_opening.proofs.kernelstill_open.Goals as goal

-- The opening as the definition has it, what it asks for, and what was written holds the start state.
module _ (mask csr feen cnt cycle : ℕ) {plan : Plan} {o : Opened} (p : plan ≡ plan_of mask csr feen cnt) (s : o ≡ open_of plan cycle) where
  state : o ≡ open_of (plan_of mask csr feen cnt) cycle
  state = s ∙ ap (λ (p : Plan). open_of p cycle) p

  asked : (image : List ℕ) → opened_into o image ≡ open_result_of mask csr feen cnt cycle image
  unfolding open_result_of
  asked image = ap (λ (o : Opened). opened_into o image) state

  carried : (image : List ℕ) → length image ≡ image_length → image ≡ image_of o.decoder → state_of image ≡ o.decoder
      → Holds image (open_of (plan_of mask csr feen cnt) cycle).decoder
  carried image long is back =
      let e = ap (λ (o : Opened). o.decoder) state in
      holds _ image (start_sound (plan_of mask csr feen cnt) cycle) long (is ∙ ap image_of e) (back ∙ e)

pub returns-then-number-eq0-clause-image_after : goal.returns-then-number-eq0-clause-image_after
returns-then-number-eq0-clause-image_after c =
    no_room c.start-opened.result c.args.image.now _ c.number-number.ensures c.if-image-ne-WORDS.true c.if-number-eq0.true
    ∙ asked c.args.mask c.args.csr c.args.feen c.args.cnt c.args.cycle c.plan_of-plan.ensures c.start-opened.ensures _

pub returns-then-image-ne-WORDS-clause-image_after : goal.returns-then-image-ne-WORDS-clause-image_after
returns-then-image-ne-WORDS-clause-image_after c =
    no_room_refused c.start-opened.result c.args.image.now _ c.number-number.ensures c.if-image-ne-WORDS.true c.if-number-eq0.false
    ∙ asked c.args.mask c.args.csr c.args.feen c.args.cnt c.args.cycle c.plan_of-plan.ensures c.start-opened.ensures _

pub returns-clause-image_after : goal.returns-clause-image_after
returns-clause-image_after c =
    filled c.start-opened.result c.args.image.now _ c.number-number.ensures c.if-image-ne-WORDS.false _ c.write.ensures.image_after
    ∙ asked c.args.mask c.args.csr c.args.feen c.args.cnt c.args.cycle c.plan_of-plan.ensures c.start-opened.ensures _

pub returns-clause-holds : goal.returns-clause-holds
returns-clause-holds c = λ long.
    carried c.args.mask c.args.csr c.args.feen c.args.cnt c.args.cycle c.plan_of-plan.ensures c.start-opened.ensures c.write.new.image
    (c.write.auto.image ∙ long) c.write.ensures.image_after c.write.ensures.image_after_2
