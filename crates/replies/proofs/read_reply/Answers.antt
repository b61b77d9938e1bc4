-- `read_reply` is the reply in a range, from its first bit to its last.
-- Assumes nothing.
use Rattle.std.proofs.Common.{rules}
use mathlib.Core.Bool.{true, false}
use mathlib.Core.Path.{◌≡◌, ◌∙◌, sym, ap, subst}
use native.Mathlib.Omega.{arith}
use Prim.Native.Nat.{◌+◌, ◌/◌}
use Rattle.bits.specs.Bits.{bits_of}
use Rattle.bits.proofs.BitRanges.{bits_all}
use Rattle.replies.specs.Said.{Reply}
use Rattle.replies.specs.declared.Reception.{Reception}
use Rattle.replies.specs.Replies.{reply_result, expected_fits}
use Rattle.replies.specs.Reception.{received, after_of, Fits}
use Rattle.replies.proofs.Kept.{start_fits}
use Rattle.replies.proofs.Groups.{result_of}
use Rattle.replies.proofs.Headers.{from_start}
use Rattle.replies.proofs.CallCases.{expected_within, wrong_expected, wrong_buffer, wrong_range, read}
use Rattle.replies.proofs.read_reply.Goals as goal
use Rattle.replies.proofs.read_reply.Goals.{Else-not-contains, Then-not-contains, After-div_ceil}

fit : (c : Else-not-contains) → expected_fits c.args.expected ≡ true
fit c = search rules

pub returns-then-not-contains : goal.returns-then-not-contains
returns-then-not-contains c = let e : expected_fits c.args.expected ≡ false = search rules in wrong_expected _ _ _ _ _ e

pub overflow_cast-bits : goal.overflow_cast-bits
overflow_cast-bits c = let f = expected_within c.args.expected (fit c) in omega (arith, f)

bytes : (c : After-div_ceil) → c.div_ceil.result ≡ (c.args.expected + 7) / 8
bytes c = search rules

pub returns-then-buffer-div_ceil : goal.returns-then-buffer-div_ceil
returns-then-buffer-div_ceil c =
    let at = goal.at.returns-then-buffer-div_ceil c in
    let f = expected_within c.args.expected (fit at.Else-not-contains) in
    wrong_buffer _ _ _ _ _ f.0 f.1 (omega (arith, bytes at.After-div_ceil))

pub returns-then-not-range_fits : goal.returns-then-not-range_fits
returns-then-not-range_fits c =
    let at = goal.at.returns-then-not-range_fits c in
    let f = expected_within c.args.expected (fit at.Else-not-contains) in
    wrong_range _ _ _ _ _ f.0 f.1 (omega (arith, bytes at.After-div_ceil)) (sym c.range_fits.ensures ∙ c.if-not-range_fits.true)

pub start-requires : goal.start-requires
start-requires c = (expected_within c.args.expected (fit (goal.at.start-requires c).Else-not-contains)).1

pub receive-state-requires : goal.receive-state-requires
receive-state-requires c =
    let f = expected_within c.args.expected (fit (goal.at.receive-state-requires c).Else-not-contains) in
    (sym c.range_fits.ensures ∙ c.if-not-range_fits.false, subst Fits (sym c.start.ensures) (start_fits _ f.1))

pub returns : goal.returns
returns c =
    let at = goal.at.returns c in
    let f = expected_within c.args.expected (fit at.Else-not-contains) in
    let a = c.args in
    let bits = bits_of a.input.now a.first a.count in
    ap (λ (said : Reply). reply_result said c.receive-state.new.buffer) c.reply.ensures
    ∙ ap result_of c.receive-state.ensures.buffer_after
    ∙ ap (λ (from : Reception). result_of (after_of (received from a.buffer.now) bits)) c.start.ensures
    ∙ from_start a.expected a.buffer.now bits (bits_all a.input.now a.first a.count)
    ∙ read a.input.now a.first a.count a.expected a.buffer.now f.0 f.1 (omega (arith, bytes at.After-div_ceil))
    (sym c.range_fits.ensures ∙ c.if-not-range_fits.false)
