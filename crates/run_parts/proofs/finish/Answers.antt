-- `run_parts::finish`: the texts that are written stand in the block of output.
-- Assumes nothing.
use Rattle.std.proofs.Common.{sym, arith}
use lib.Seq.{length-take-le}
use Rattle.output.proofs.Pieces.{put_end_within}
use Rattle.program.specs.Listing.{state_lines}
use Rattle.program.specs.RunState.{message_of}
use Rattle.program.proofs.StateLines.{state_lines_fit}
use Rattle.messages.proofs.Lengths.{sentence_short}
use Rattle.run_parts.proofs.finish.Goals as goal

pub slice_bounds-write_whole-end : goal.slice_bounds-write_whole-end
slice_bounds-write_whole-end c =
    let a = c.args in
    put_end_within a.output.now (state_lines a.prints a.state.decoder a.store.now) _ 0 _ c.put_state_lines-lines.ensures
    (omega (arith, state_lines_fit a.prints a.state.decoder a.store.now c.requires.0, c.requires.1))

pub slice_bounds-write_whole-end-2 : goal.slice_bounds-write_whole-end-2
slice_bounds-write_whole-end-2 c = sym (length-take-le _ _ (slice_bounds-write_whole-end c))

pub slice_bounds-tell-end : goal.slice_bounds-tell-end
slice_bounds-tell-end c =
    let s = c.args.state in
    put_end_within _ (message_of s) _ 0 _ c.put_message-message.ensures
    (omega (arith, sentence_short s.number s.lines s.line.notes, c.put_state_lines-lines.auto.out, c.requires.1))

pub slice_bounds-tell-end-2 : goal.slice_bounds-tell-end-2
slice_bounds-tell-end-2 c = sym (length-take-le _ _ (slice_bounds-tell-end c))
