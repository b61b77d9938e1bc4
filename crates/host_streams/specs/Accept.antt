-- What the library answers for a stream: a number and a place in one word (ours).
-- Assumes nothing.
use Rattle.std.specs.Prelude.{ℕ, ◌+◌, ◌*◌}
use Rattle.patterns.specs.Verdict.{Verdict}
use Rattle.patterns.specs.Verdicts.{verdict_number, verdict_place}

-- The place stands above the number, which is below 256.
abbrev pub accept_word : Verdict → ℕ
accept_word v = verdict_place v * 256 + verdict_number v
