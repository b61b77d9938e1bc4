-- `put_order` meets its contract: that the stream is too long, or the sentence of the reason that has the number.
-- Assumes nothing.
use mathlib.Core.List.{List}
use mathlib.Core.Path.{◌≡◌}
use Prim.Native.Nat.{ℕ, ◌+◌, ◌≤◌}
use lib.ListN.{length}
use Rattle.order_messages.proofs.OrderReasons.{long_stream}
use Rattle.order_messages.proofs.Sentences.{by_number}
use Rattle.order_messages.proofs.put_order.Goals as goal

-- There is room for it.
room : (out : List ℕ) (at : ℕ) {whole : List ℕ} (text : List ℕ) → at + length whole ≤ length out → whole ≡ text → at + length text ≤ length out
room out at text h e = rw e at h

pub put_bytes-requires : goal.put_bytes-requires
put_bytes-requires c = room _ _ _ c.requires (long_stream _ c.args.asked c.args.given c.args.line c.if-reason-eq-LONG_STREAM.true)

pub returns-then-reason-eq-LONG_STREAM : goal.returns-then-reason-eq-LONG_STREAM
returns-then-reason-eq-LONG_STREAM c =
    rw (long_stream _ c.args.asked c.args.given c.args.line c.if-reason-eq-LONG_STREAM.true) c.put_bytes.ensures

pub put_reason-requires : goal.put_reason-requires
put_reason-requires c =
    let a = c.args in
    rw (← by_number _ a.reason a.asked a.given a.line c.numbered.ensures c.if-reason-eq-LONG_STREAM.false) at c.requires

pub returns : goal.returns
returns c =
    let a = c.args in
    rw (← by_number _ a.reason a.asked a.given a.line c.numbered.ensures c.if-reason-eq-LONG_STREAM.false) c.put_reason.ensures
