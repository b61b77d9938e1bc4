-- `Judgement::put_message` puts the sentence of a refusal.
-- Assumes nothing.
use mathlib.Core.Path.{◌∙◌, sym, ap}
use native.Mathlib.Omega.{arith}
use Rattle.output.specs.Block.{put_all}
use Rattle.messages.proofs.Lengths.{sentence_short}
use Rattle.fault_messages.proofs.Lengths.{fault_short}
use Rattle.judgements.proofs.Texts.{fault_message, line_message}
use Rattle.judgements.proofs.Judgement.put_message.Goals as goal

pub put_fault-requires : goal.put_fault-requires
put_fault-requires c =
    let s = c in
    let j = s.args.self in
    omega (arith, fault_short j.number j.place, s.requires)

pub returns-then-self-ge13 : goal.returns-then-self-ge13
returns-then-self-ge13 c =
    let put = c in
    let t = put in
    let s = t in
    put.put_fault.ensures ∙ ap (put_all s.args.out.now 0) (sym (fault_message s.args.self t.if-self-ge13.true))

pub put_sentence-requires : goal.put_sentence-requires
put_sentence-requires c =
    let s = c in
    let j = s.args.self in
    omega (arith, sentence_short j.number j.line j.notes, s.requires)

pub returns : goal.returns
returns c =
    let put = c in
    let e = put in
    let s = e in
    put.put_sentence.ensures ∙ ap (put_all s.args.out.now 0) (sym (line_message s.args.self e.if-self-ge13.false))
