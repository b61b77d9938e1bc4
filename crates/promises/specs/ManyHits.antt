-- The fourth promise: the damage statement for any number of inverted bits (document 02, F-13). The third demand is its case of one.
-- Assumes nothing.
use Rattle.std.specs.Prelude.{◌≡◌, false, List, ℕ, ◌+◌, ◌≤◌, T, length}
use Rattle.limits.specs.Limits.{clock_limit}
use Rattle.decoder.specs.declared.Decoder.{Decoder}
use Rattle.records.specs.Records.{record_words}
use Rattle.timing.specs.Table.{kind_bcr, kind_ecr}
use Rattle.calls.specs.Take.{Call}
use Rattle.calls.specs.Calls.{all_bits, all_words, state_left}
use Rattle.clean_streams.specs.CleanStreams.{Item, stream_bits}
use Rattle.damage.specs.Hits.{HitCycles, inverted_at, Apart, apart_by_items}
use Rattle.damage.specs.Records.{ahead_of, sends, clean_records, clean_ahead, hit_records, hit_ahead}
use Rattle.damage.specs.Comparison.{OnlyFirst, Beside, SameCounters, may_differ_after}
use Rattle.promises.specs.Damage.{Stream}

-- What a list of calls has taken and written, and the state that it leaves.
pub record Made : Type 0 where
  pub bits : List ℕ
  pub words : List ℕ
  pub state : Decoder

abbrev pub made : Decoder → List Call → Made
made d calls = record { bits = all_bits d calls; words = all_words d calls; state = state_left d calls }

-- Two lists of calls, of which one has taken a clean stream and the other the same bits with any number inverted, "provided that between any two of them
-- lies a whole command that no inverted bit affects".
pub record HitRuns (d : Decoder) (clean damaged : Made) (hits : HitCycles) (items : List Item) (trailing : ℕ) : Type 0 where
  pub stream : Stream d items
  pub apart : Apart hits d.next items trailing
  pub took_clean : clean.bits ≡ stream_bits items trailing
  pub took_damaged : damaged.bits ≡ inverted_at hits d.next (stream_bits items trailing)

-- The clean run is that of the third demand. The damaged run has written exactly the records of `hit_records`: each affected command by the damage table,
-- with the position of document 02, F-1, the flag of F-5 by the record before it, and the trigger and bunch number by the damaged run's counters ahead of
-- it; every other command by the same counters. The states that are left have the counters and the earlier record that these records lead to. In the paper's
-- words (`Beside`), all others are as in the clean run but for these numbers; each counter agrees until the first affected command and again from each
-- unaffected reset until another command is affected, ahead of each command and in the states that are left.
pub record HitsWrote (d : Decoder) (clean damaged : Made) (hits : HitCycles) (items : List Item) : Type 0 where
  pub clean_words : clean.words ≡ record_words (clean_records (sends d) (ahead_of d) d.next items)
  pub clean_left : ahead_of clean.state ≡ clean_ahead (ahead_of d) d.next items
  pub only_first : OnlyFirst (clean_records (sends d) (ahead_of d) d.next items)
  pub damaged_words : damaged.words ≡ record_words (hit_records (sends d) hits (ahead_of d) d.next items)
  pub damaged_left : ahead_of damaged.state ≡ hit_ahead hits (ahead_of d) d.next items
  pub beside : Beside (sends d) hits false false (ahead_of d) (ahead_of d) d.next items
      (clean_records (sends d) (ahead_of d) d.next items) (hit_records (sends d) hits (ahead_of d) d.next items)
  pub counters : SameCounters (may_differ_after hits kind_ecr d.next items false) (may_differ_after hits kind_bcr d.next items false)
      clean.state.model.counters damaged.state.model.counters

-- Any cuts, any buffers, refused calls included.
abbrev pub FourthPromise : Type 0
FourthPromise =
    (d : Decoder) (clean damaged : List Call) (hits : HitCycles) (items : List Item) (trailing : ℕ)
    → HitRuns d (made d clean) (made d damaged) hits items trailing → HitsWrote d (made d clean) (made d damaged) hits items

-- The premise holds exactly where the test item by item passes.
pub record ByItems (hits : HitCycles) (n : ℕ) (items : List Item) (trailing : ℕ) : Type 0 where
  pub to : Apart hits n items trailing → T (apart_by_items hits false n items trailing)
  pub from : T (apart_by_items hits false n items trailing) → Apart hits n items trailing

abbrev pub PremiseByItems : Type 0
PremiseByItems = (hits : HitCycles) (n : ℕ) (items : List Item) (trailing : ℕ) → ByItems hits n items trailing

-- The premises can be met: wherever the clock has room for the stream, there are two such lists of calls.
pub record HitsMet (d : Decoder) (hits : HitCycles) (items : List Item) (trailing : ℕ) : Type 0 where
  pub clean : List Call
  pub damaged : List Call
  pub runs : HitRuns d (made d clean) (made d damaged) hits items trailing

abbrev pub FourthPromiseMet : Type 0
FourthPromiseMet =
    (d : Decoder) (hits : HitCycles) (items : List Item) (trailing : ℕ)
    → Stream d items → Apart hits d.next items trailing → d.next + length (stream_bits items trailing) ≤ clock_limit → HitsMet d hits items trailing
