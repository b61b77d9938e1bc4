-- Inputs of `accept`, character for character, with all that it prints (document 02, F-8).
-- Assumes nothing.
use Rattle.std.specs.Prelude.{◌≡◌, []}
use Rattle.output.specs.Ascii.{ascii}
use Rattle.judgements.specs.Judgement.{text_of, judged_of}

-- Accepted: LV1, zeros, LV1. Then BCR, one zero, BCR; behind a line with an LV1 a Slow's header; an LV1, and the beginning of a Fast at the end; the two
-- BCR with a line behind them that would be refused, but they end the run; the beginning of a Fast with such a line, which is what ends it; and a line of
-- five digits.
pub record JudgementExamples : Type 0 where
  pub accepted : text_of (judged_of (ascii "1D00E8\n")) ≡ []
  pub too_close : text_of (judged_of (ascii "B0AC20\n")) ≡ ascii "!0F 00000000000A\n"
  pub unknown : text_of (judged_of (ascii "1D\nB5\n")) ≡ ascii "!0D 000000000008\n"
  pub cut : text_of (judged_of (ascii "1D0B\n")) ≡ ascii "!0E 00000000000C\n"
  pub fault_first : text_of (judged_of (ascii "B0AC20\n0G\n")) ≡ ascii "!0F 00000000000A\n"
  pub refused_first : text_of (judged_of (ascii "1D0B\n0G\n")) ≡ ascii "!07 00000002\n"
  pub odd : text_of (judged_of (ascii "B0AC0\n")) ≡ ascii "!08 00000001\n"
