-- The fourth promise, proved.
-- Assumes nothing.
use mathlib.Core.Path.{◌∙◌, refl, sym, ap}
use mathlib.Core.Bool.{false}
use Rattle.decoder.proofs.Soundness.{sound_parts}
use Rattle.calls.proofs.BitCalls.{calls_for, calls_take}
use Rattle.clean_streams.specs.CleanStreams.{stream_bits}
use Rattle.damage.specs.Hits.{inverted_at}
use Rattle.damage.specs.Records.{Ahead, ahead_of, sends}
use Rattle.damage.proofs.Separation.{by_items, by_pairs}
use Rattle.damage.proofs.Comparison.{Standing, beside, counters}
use Rattle.damage.proofs.Spacing.{alike_equal, only_first}
use Rattle.damaged_runs.proofs.CallLists.{clean_recorded, hit_recorded}
use Rattle.damage.proofs.StreamBits.{stream_binary, inverted_binary, length_inverted}
use Rattle.promises.specs.ManyHits.{FourthPromise, PremiseByItems, FourthPromiseMet}

pub fourth_promise : FourthPromise
fourth_promise d clean damaged hits items trailing r =
    let s = r.stream in
    let a = ahead_of d in
    let apart = by_items hits d.next items trailing r.apart in
    let c = clean_recorded d s.running s.hunting s.window clean items trailing r.took_clean in
    let h = hit_recorded d s.running s.hunting s.window damaged hits items trailing s.timing apart r.took_damaged in
    let standing : Standing false false a a d.next items = record {
      same = ((λ _. refl), (λ _. refl));
      alike = alike_equal a.earlier a.earlier refl d.next items;
      below = (sound_parts d s.sound).earlier;
    } in
    let same = counters (sends d) hits false false a a d.next items ((λ _. refl), (λ _. refl)) in
    record {
      clean_words = c.words;
      clean_left = c.after;
      only_first = only_first (sends d) a d.next items s.timing;
      damaged_words = h.words;
      damaged_left = h.after;
      beside = beside (sends d) hits false false a a d.next items standing s.timing;
      counters = (
        (λ t. ap (λ (b : Ahead). b.counters.l1id) c.after ∙ same.0 t ∙ sym (ap (λ (b : Ahead). b.counters.l1id) h.after)),
        (λ u. ap (λ (b : Ahead). b.counters.base) c.after ∙ same.1 u ∙ sym (ap (λ (b : Ahead). b.counters.base) h.after)),
      );
    }

pub premise_by_items : PremiseByItems
premise_by_items hits n items trailing = record { to = by_items hits n items trailing; from = by_pairs hits n items trailing }

-- A call for each bit.
pub fourth_promise_met : FourthPromiseMet
fourth_promise_met d hits items trailing s apart room =
    let bits = stream_bits items trailing in
    let damaged = inverted_at hits d.next bits in
    let binary = stream_binary items trailing in
    record {
      clean = calls_for bits;
      damaged = calls_for damaged;
      runs = record {
        stream = s;
        apart = apart;
        took_clean = calls_take bits d binary s.sound room;
        took_damaged = calls_take damaged d (inverted_binary hits d.next bits binary) s.sound (rw (length_inverted hits d.next bits) room);
      };
    }
