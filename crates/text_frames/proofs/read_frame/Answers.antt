-- `read_frame` meets its contract: no digits, a count that is none or too large, or a frame.
-- Assumes nothing.
use mathlib.Core.Bool.{Bool}
use mathlib.Core.Path.{◌≡◌, ◌∙◌, refl, sym, ap}
use mathlib.Core.List.{List}
use Prim.Native.Char.{code}
use Prim.Native.Nat.{ℕ, ◌*◌, ◌≤◌}
use native.Mathlib.Omega.{arith}
use lib.Dec.{leb}
use lib.ListN.{length, take}
use lib.Seq.{length-take-le}
use borrow.Author.Tests.{tests}
use Rattle.std.proofs.Common.{rules, Some, None}
use Rattle.text_numbers.proofs.Numbers.{passing_told}
use Rattle.output.specs.Block.{put_all}
use Rattle.text_words.proofs.Words.{up_to_within, up_to_take}
use Rattle.text_frames.specs.Frames.{up_to_colon, are_digits, bytes_of}
use Rattle.text_frames.proofs.Frames.{bytes_few, no_digits, framed_told, frame_wrong, frame_put}
use Rattle.text_frames.proofs.read_frame.Goals as goal

-- the digits are those ahead of the colon
module _ (word : List ℕ) (n : ℕ) (e : n ≡ length (up_to_colon word)) where
  ahead : take n word ≡ up_to_colon word
  ahead = ap (λ (n : ℕ). take n word) e ∙ up_to_take (code ":") word

  within : n ≤ length word
  within = omega (arith, e, up_to_within (code ":") word)

  -- by a call that tests them
  tested : (r : Bool) → r ≡ are_digits (take n word) → are_digits (up_to_colon word) ≡ r
  tested r t = sym (ap are_digits ahead) ∙ sym t

pub slice_bounds-digits-end : goal.slice_bounds-digits-end
slice_bounds-digits-end c = sym (length-take-le _ _ (within c.args.word.now _ c.place_of-count.ensures))

pub returns-then-not-are_digits : goal.returns-then-not-are_digits
returns-then-not-are_digits c =
    frame_wrong _ _ refl (no_digits _ (tested _ _ c.place_of-count.ensures _ c.if-not-are_digits.ensures))

pub overflow_mul-given : goal.overflow_mul-given
overflow_mul-given c = omega (arith, within c.args.word.now _ c.place_of-count.ensures, c.requires.0)

pub returns-in_err-bits : goal.returns-in_err-bits
returns-in_err-bits c =
    let e = c.place_of-count.ensures in
    frame_wrong _ _ c.from_residual.ensures
    (framed_told _ (tested _ _ e _ c.if-not-are_digits.ensures) _ None _ c.bits_said.ensures e
    (sym c.in_err-bits.was ∙ passing_told (λ m. leb m (4 * c.place_of-count.result)) _ _ _ (λ n b g. search (rules, tests)) c.filter.ensures))

pub returns : goal.returns
returns c =
    let a = c.args in
    let word = a.word.now in
    let e = c.place_of-count.ensures in
    frame_put a.bytes.now (up_to_colon word) _ _ _ (c.put_digits-size.ensures ∙ ap (λ (l : List ℕ). put_all a.bytes.now 0 (bytes_of l)) (ahead _ _ e))
    (omega (arith, bytes_few (up_to_colon word), up_to_within (code ":") word, c.requires))
    (framed_told _ (tested _ _ e _ c.if-not-are_digits.ensures) _ (Some c.in_ok-bits.bits) _ c.bits_said.ensures e
    (sym c.in_ok-bits.was ∙ passing_told (λ m. leb m (4 * c.place_of-count.result)) _ _ _ (λ n b g. search (rules, tests)) c.filter.ensures))
