-- `kernelstill_take` is the taking call on the state that the image reads as.
-- Assumes nothing.
use mathlib.Core.Path.{sym, ap, ◌∙◌}
use Rattle.decoder.specs.declared.Decoder.{Decoder}
use Rattle.calls.specs.Take.{CallResult, call, take_of}
use Rattle.host_results.proofs.TakeCases.{sound_length, unsound, no_result, refused, accepted, moved_on}
use Rattle.kernelstill.proofs.kernelstill_take.Goals as goal

pub returns-then-not-sound_image-clause-list_after : goal.returns-then-not-sound_image-clause-list_after
returns-then-not-sound_image-clause-list_after c = unsound c.args.image.now c.args.res.now _ (sym c.sound_image.ensures ∙ c.if-not-sound_image.true)

pub returns-then-res-ne-RESULT_WORDS-clause-list_after : goal.returns-then-res-ne-RESULT_WORDS-clause-list_after
returns-then-res-ne-RESULT_WORDS-clause-list_after c =
    no_result c.args.image.now c.args.res.now _ (sym c.sound_image.ensures ∙ c.if-not-sound_image.false) c.if-res-ne-RESULT_WORDS.true

pub read-decoder-requires : goal.read-decoder-requires
read-decoder-requires c = sound_length _ (sym c.sound_image.ensures ∙ c.if-not-sound_image.false)

pub returns-then-number-ne0-clause-list_after : goal.returns-then-number-ne0-clause-list_after
returns-then-number-ne0-clause-list_after c =
    refused c.args.image.now c.args.res.now _ (sym c.sound_image.ensures ∙ c.if-not-sound_image.false) c.if-res-ne-RESULT_WORDS.false
    c.read-decoder.result c.read-decoder.ensures _ c.take-taken.ensures _ c.number-number.ensures c.if-number-ne0.true

pub write-requires : goal.write-requires
write-requires c = sound_length _ (sym c.sound_image.ensures ∙ c.if-not-sound_image.false)

pub returns-clause-list_after : goal.returns-clause-list_after
returns-clause-list_after c =
    accepted c.args.image.now c.args.res.now _ (sym c.sound_image.ensures ∙ c.if-not-sound_image.false) c.if-res-ne-RESULT_WORDS.false
    c.read-decoder.result c.read-decoder.ensures _ c.take-taken.ensures _ c.number-number.ensures c.if-number-ne0.false _ _ c.write.ensures.image_after
    c.write_result.ensures

pub returns-clause-holds : goal.returns-clause-holds
returns-clause-holds c = λ z.
    let asked = call c.args.input.now c.args.first c.args.count c.args.store.now c.args.tray.now c.args.list.now c.args.free in
    moved_on c.args.image.now asked (sym c.sound_image.ensures ∙ c.if-not-sound_image.false) _
    (ap (λ (l : CallResult). l.taken.decoder) (c.take-taken.ensures ∙ ap (λ (d : Decoder). take_of d asked) c.read-decoder.ensures))
    c.write.new.image c.write.auto.image c.write.ensures.image_after c.write.ensures.image_after_2
