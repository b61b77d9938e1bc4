-- `Judgement::put_text` puts the line of a refusal, if it has one.
-- Assumes nothing.
use mathlib.Core.Path.{sym, ap}
use Rattle.output.specs.Block.{put_all}
use Rattle.judgements.proofs.Texts.{no_text, fault_put, line_put}
use Rattle.judgements.proofs.Judgement.put_text.Goals as goal

pub returns-then-self-ge13 : goal.returns-then-self-ge13
returns-then-self-ge13 c = fault_put c.args.self c.args.out.now c.requires c.if-self-ge13.true c.fault_line.ensures

pub returns-then-self-ge7 : goal.returns-then-self-ge7
returns-then-self-ge7 c = line_put c.args.self c.args.out.now c.requires c.if-self-ge13.false c.if-self-ge7.true c.refused_line.ensures

pub returns : goal.returns
returns c = ap (put_all c.args.out.now 0) (sym (no_text c.args.self c.if-self-ge13.false c.if-self-ge7.false))
