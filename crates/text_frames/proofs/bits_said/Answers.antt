-- `bits_said` meets its contract: by the number behind a colon, or by the digits.
-- Assumes nothing.
use mathlib.Core.Path.{◌∙◌, sym, ap}
use Prim.Native.Char.{code}
use Prim.Native.Nat.{◌+◌}
use native.Mathlib.Omega.{arith}
use Rattle.text_words.proofs.Words.{up_to_within, part_rest}
use Rattle.text_numbers.specs.Numbers.{decimal}
use Rattle.text_frames.proofs.Frames.{said_behind, said_by_digits}
use Rattle.text_frames.proofs.bits_said.Goals as goal

pub returns-then-digits-word : goal.returns-then-digits-word
returns-then-digits-word c =
    let a = c.args in
    c.read_number.ensures ∙ ap decimal (part_rest a.word.now (a.digits + 1)) ∙ sym (said_behind a.word.now a.digits c.requires.0 c.if-digits-word.true)

pub overflow_mul-result : goal.overflow_mul-result
overflow_mul-result c = omega (arith, c.requires.0, up_to_within (code ":") c.args.word.now, c.requires.1)

pub returns : goal.returns
returns c = sym (said_by_digits c.args.word.now c.args.digits c.requires.0 c.if-digits-word.false)
