-- The third demand: one claim about two lists of taking calls, a clean run and the same bits with one inverted (document 01, "The damage table";
-- document 02, F-1 and F-5).
-- Assumes nothing.
use Rattle.std.specs.Prelude.{◌≡◌, true, List, ℕ, ◌+◌, ◌<◌, ◌≤◌, T, length}
use Rattle.limits.specs.Limits.{clock_limit}
use Rattle.recogniser.specs.declared.Phase.TheVariants.{Hunt}
use Rattle.decoder.specs.declared.Decoder.{Decoder}
use Rattle.decoder.specs.Sound.{sound_of}
use Rattle.records.specs.Records.{record_words}
use Rattle.calls.specs.Take.{Call}
use Rattle.calls.specs.Calls.{all_bits, all_words}
use Rattle.clean_streams.specs.CleanStreams.{Item, stream_bits, timed}
use Rattle.damage.specs.Inverted.{inverted}
use Rattle.damage.specs.Records.{ahead_of, sends, clean_records, damaged_records}
use Rattle.damage.specs.Comparison.{OnlyFirst, Replaced}

-- Any sound state in RunMode, hunting, window 00000; and a clean stream.
pub record Stream (d : Decoder) (items : List Item) : Type 0 where
  pub sound : T (sound_of d)
  pub running : d.model.running ≡ true
  pub hunting : d.recogniser.phase ≡ Hunt
  pub window : d.recogniser.shift ≡ 0
  pub timing : T (timed items)

-- The bits of two lists of calls, of which one has taken the stream and the other the same bits with bit k inverted, counted from 0.
pub record Runs (d : Decoder) (clean damaged : List ℕ) (items : List Item) (trailing k : ℕ) : Type 0 where
  pub stream : Stream d items
  pub inside : k < length (stream_bits items trailing)
  pub took_clean : clean ≡ stream_bits items trailing
  pub took_damaged : damaged ≡ inverted k (stream_bits items trailing)

-- Their words. The clean run has written the paper's record for each command and no other, and only the first can have flag 20, by the state's earlier
-- record. The damaged run has written exactly these but for the affected one, which is exactly the damage table's (`damaged_records`), with the position of
-- document 02, F-1, and the flag of F-5 by the record before it; in the paper's words (`Replaced`), the trigger numbers differ at most after the affected
-- command up to the first ECR after it, the bunch numbers up to the first BCR, and nowhere if no command is affected. The positions of unaffected LV1s and
-- the flags of unaffected records agree everywhere.
pub record Wrote (d : Decoder) (clean damaged : List ℕ) (items : List Item) (k : ℕ) : Type 0 where
  pub clean_words : clean ≡ record_words (clean_records (sends d) (ahead_of d) d.next items)
  pub only_first : OnlyFirst (clean_records (sends d) (ahead_of d) d.next items)
  pub damaged_words : damaged ≡ record_words (damaged_records (sends d) (ahead_of d) d.next items k)
  pub replaced : Replaced (sends d) (ahead_of d) d.next items k (damaged_records (sends d) (ahead_of d) d.next items k)

-- Any cuts, any buffers, refused calls included.
abbrev pub ThirdDemand : Type 0
ThirdDemand =
    (d : Decoder) (clean damaged : List Call) (items : List Item) (trailing k : ℕ)
    → Runs d (all_bits d clean) (all_bits d damaged) items trailing k → Wrote d (all_words d clean) (all_words d damaged) items k

-- The premises can be met: wherever the clock has room for the stream, there are two such lists of calls.
pub record Met (d : Decoder) (items : List Item) (trailing k : ℕ) : Type 0 where
  pub clean : List Call
  pub damaged : List Call
  pub runs : Runs d (all_bits d clean) (all_bits d damaged) items trailing k

abbrev pub ThirdDemandMet : Type 0
ThirdDemandMet =
    (d : Decoder) (items : List Item) (trailing k : ℕ)
    → Stream d items → k < length (stream_bits items trailing) → d.next + length (stream_bits items trailing) ≤ clock_limit → Met d items trailing k
