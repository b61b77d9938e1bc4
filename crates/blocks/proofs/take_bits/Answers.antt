-- `blocks::take_bits` meets its contract: what the taking call answers, and the lines of its records.
-- Assumes nothing.
use mathlib.Core.Path.{◌≡◌, refl, sym}
use native.Mathlib.Omega.{arith}
use lib.ListN.{length, replicate}
use lib.Seq.{length-take-le}
use borrow.Author.Rules.{rules}
use Rattle.line_meanings.specs.Line.{line_bytes}
use Rattle.program.specs.RunState.{Snapshot, snapshot, list_words}
use Rattle.calls.specs.Take.{CallResult, call_result}
use Rattle.program.proofs.TakingCall.{CallPrints}
use Rattle.program.proofs.TakeStep.{call_of, CallMade, call_printed, records_fit, after_take}
use Rattle.blocks.proofs.take_bits.Goals as goal
use Rattle.blocks.proofs.take_bits.Goals.{Start, After-take-taken}

long : (s : Start) → length s.args.from.bytes ≡ line_bytes
long s = let known = s.well_formed.0.1.1.1.1.1.0 in search rules

-- The run as the function begins, what the call leaves, and what is known of the call.
abbrev before : After-take-taken → Snapshot
before c = snapshot c.args.from c.args.store.now c.args.tray.now c.args.out.now

abbrev result : After-take-taken → CallResult
result c = call_result c.take-taken.result c.take-taken.new.store c.take-taken.new.tray c.take-taken.new.list

made : (c : After-take-taken) → length c.args.from.bytes ≡ line_bytes → CallMade (before c) (replicate list_words 0) (result c)
made c bytes = record {
  ready = c.requires.0;
  some = c.requires.1;
  bytes = bytes;
  words = refl;
  result = c.take-taken.ensures;
}

printed : (c : After-take-taken) → length c.args.from.bytes ≡ line_bytes
    → CallPrints c.args.frames (before c).state.decoder (call_of (before c) (replicate list_words 0)) (result c)
printed c bytes = call_printed c.args.frames (made c bytes)

pub overflow_mul-n : goal.overflow_mul-n
overflow_mul-n c = omega (arith, (printed (goal.at.overflow_mul-n c).After-take-taken (long (goal.at.overflow_mul-n c).Start)).fits)

pub overflow_add-next : goal.overflow_add-next
overflow_add-next c = omega (arith, (printed (goal.at.overflow_add-next c).After-take-taken (long (goal.at.overflow_add-next c).Start)).low, c.requires.0.well_formed.range)

pub overflow_sub-next : goal.overflow_sub-next
overflow_sub-next c = (printed (goal.at.overflow_sub-next c).After-take-taken (long (goal.at.overflow_sub-next c).Start)).low

pub slice_bounds-list-end : goal.slice_bounds-list-end
slice_bounds-list-end c = omega (arith, (printed (goal.at.slice_bounds-list-end c).After-take-taken (long (goal.at.slice_bounds-list-end c).Start)).fits, c.take-taken.auto.list)

pub slice_bounds-put_records-end : goal.slice_bounds-put_records-end
slice_bounds-put_records-end c =
    sym (length-take-le _ _ (omega (arith, (printed (goal.at.slice_bounds-put_records-end c).After-take-taken (long (goal.at.slice_bounds-put_records-end c).Start)).fits, c.take-taken.auto.list)))

pub put_records-requires : goal.put_records-requires
put_records-requires c = records_fit c.args.frames (made (goal.at.put_records-requires c).After-take-taken (long (goal.at.put_records-requires c).Start)) c.take-taken.auto.tray

pub returns : goal.returns
returns c =
    rw c.clock_number.ensures
    (after_take c.args.frames (made (goal.at.returns c).After-take-taken (long (goal.at.returns c).Start)) c.take-taken.auto.store c.take-taken.auto.tray _ _ c.put_records.ensures)
