-- The third demand, proved: the fourth promise with one inverted bit.
-- Assumes nothing.
use mathlib.Core.Path.{◌∙◌, sym, ap}
use mathlib.Core.List.{List}
use Prim.Native.Nat.{ℕ, ◌+◌, ◌<◌}
use lib.ListN.{length}
use Rattle.decoder.specs.declared.Decoder.{Decoder}
use Rattle.decoder.proofs.Soundness.{sound_parts}
use Rattle.records.specs.Records.{record_words}
use Rattle.clean_streams.specs.CleanStreams.{Item, stream_bits}
use Rattle.damage.specs.Records.{ahead_of, sends}
use Rattle.damage.proofs.Comparison.{replaced}
use Rattle.damage.proofs.OneHit.{one_hit, one_inverted, one_apart, one_records}
use Rattle.promises.specs.Damage.{Runs, Wrote, ThirdDemand, ThirdDemandMet}
use Rattle.promises.specs.ManyHits.{Made, made, HitRuns, HitsWrote}
use Rattle.promises.proofs.ManyHits.{fourth_promise, fourth_promise_met}

-- Two lists of calls of any kind, of which one has taken the stream with bit k inverted.
module _ (d : Decoder) (clean damaged : Made) (items : List Item) (trailing k : ℕ) where
  pub one_runs : Runs d clean.bits damaged.bits items trailing k → HitRuns d clean damaged (one_hit (d.next + k)) items trailing
  one_runs r = record {
    stream = r.stream;
    apart = one_apart (d.next + k) d.next items trailing;
    took_clean = r.took_clean;
    took_damaged = r.took_damaged ∙ sym (one_inverted d.next k (stream_bits items trailing));
  }

  pub runs_one : k < length (stream_bits items trailing) → HitRuns d clean damaged (one_hit (d.next + k)) items trailing
      → Runs d clean.bits damaged.bits items trailing k
  runs_one inside r = record {
    stream = r.stream;
    inside = inside;
    took_clean = r.took_clean;
    took_damaged = r.took_damaged ∙ one_inverted d.next k (stream_bits items trailing);
  }

  pub one_wrote : Runs d clean.bits damaged.bits items trailing k → HitsWrote d clean damaged (one_hit (d.next + k)) items
      → Wrote d clean.words damaged.words items k
  one_wrote r w = record {
    clean_words = w.clean_words;
    only_first = w.only_first;
    damaged_words = w.damaged_words ∙ ap record_words (one_records (sends d) (ahead_of d) d.next items k);
    replaced = replaced (sends d) (ahead_of d) d.next items k r.stream.timing (sound_parts d r.stream.sound).earlier;
  }

pub third_demand : ThirdDemand
third_demand d clean damaged items trailing k r =
    let runs = one_runs d (made d clean) (made d damaged) items trailing k r in
    one_wrote d (made d clean) (made d damaged) items trailing k r (fourth_promise d clean damaged (one_hit (d.next + k)) items trailing runs)

pub third_demand_met : ThirdDemandMet
third_demand_met d items trailing k s inside room =
    let hits = one_hit (d.next + k) in
    let m = fourth_promise_met d hits items trailing s (one_apart (d.next + k) d.next items trailing) room in
    record { clean = m.clean; damaged = m.damaged; runs = runs_one d (made d m.clean) (made d m.damaged) items trailing k inside m.runs }
