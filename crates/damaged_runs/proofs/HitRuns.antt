-- Any number of inverted bits in a clean stream, far enough apart: the recogniser shows for each command what the damage table says of it.
-- Assumes nothing.
use mathlib.Core.Path.{◌≡◌, ◌∙◌, sym, ap}
use mathlib.Core.Bool.{true, false}
use mathlib.Core.List.{List, [], ◌∷◌, ◌++◌}
use mathlib.Core.Logic.{⊎_elim}
use Prim.Native.Nat.{ℕ, ◌+◌, ◌<◌}
use lib.Dec.{leb, T, leb→le}
use lib.ListN.{length, length-replicate}
use Rattle.bits.proofs.Truth.{cases, and_left, and_right}
use Rattle.recogniser.specs.declared.Recogniser.{Recogniser}
use Rattle.recogniser.specs.Parts.{idle}
use Rattle.clean_streams.specs.Commands.{Command}
use Rattle.clean_streams.specs.CleanStreams.{Item, zeros, zeros_between, item_bits, item_size, stream_bits, spaced, timed}
use Rattle.damage.specs.Table.{itself, affected}
use Rattle.damage.specs.Hits.{HitCycles, inverted_at, affected_by, hits_in, apart_by_items}
use Rattle.damage.specs.Traces.{requests_of, item_trace, hit_trace}
use Rattle.damage.proofs.StreamBits.{spaced_timed, item_length}
use Rattle.damaged_runs.proofs.TracesJoined.{Shows, onward}
use Rattle.damaged_runs.proofs.Recovery.{Resumes, resumes_settles, idling, trailing, clean_item, resumed}
use Rattle.damage.proofs.HitPlaces.{Missed, Once, inverted_append, inverted_none, inverted_once, count_none, count_one}
use Rattle.damage.proofs.HitItems.{missed_spared, once_affected, once_stands}
use Rattle.damaged_runs.proofs.InvertedBit.{in_item, in_tail}

module _ (hits : HitCycles) (t : ℕ) where
  abbrev bits_from : ℕ → List Item → List ℕ
  bits_from n is = inverted_at hits n (stream_bits is t)

  -- From a recogniser with an empty window, and from one that resumes after an affected command.
  record ShowsAll (n : ℕ) (is : List Item) : Type 0 where
    empty : T (timed is) → T (apart_by_items hits false n is t) → requests_of idle (bits_from n is) ≡ hit_trace hits n is t
    near : (c : Command) (r : Recogniser) → Resumes c r → T (spaced c is) → T (apart_by_items hits true n is t)
        → requests_of r (bits_from n is) ≡ hit_trace hits n is t

  -- the zeros at the end
  no_item : (n : ℕ) → ShowsAll n []
  no_item n =
      let size : length (zeros t) ≡ t = length-replicate t 0 in
      record {
        empty = λ _ apart.
            ⊎_elim (λ missed. rw (inverted_none hits n (zeros t) (rw size missed)) (idling t).seen)
            (λ once. rw (inverted_once hits n (zeros t) once.0 (rw size once.2)) (in_tail once.0 t))
            (count_one hits n t (leb→le (hits_in hits n t) 1 apart));
        near = λ c r resumes _ apart.
            rw (inverted_none hits n (zeros t) (rw size (count_none hits n t (leb→le (hits_in hits n t) 0 apart))))
            (trailing r (resumes_settles c r resumes) t);
      }

  -- an item's bits, and what follows them
  module _ (n : ℕ) (i : Item) (is : List Item) (rest : ShowsAll (n + item_size i) is) where
    parted : bits_from n (i ∷ is) ≡ inverted_at hits n (item_bits i) ++ bits_from (n + item_size i) is
    parted =
        inverted_append hits n (item_bits i) (stream_bits is t) ∙ ap (λ m. inverted_at hits n (item_bits i) ++ bits_from (n + m) is) (item_length i)

    abbrev Later : Type 0
    Later = T (apart_by_items hits (affected_by hits n i) (n + item_size i) is t)

    -- none is inverted, and the command shows itself
    whole : (r : Recogniser) → Shows r (item_bits i) (item_trace i (itself i.command)) idle → Missed hits n (item_size i) → T (timed is) → Later
        → requests_of r (bits_from n (i ∷ is)) ≡ hit_trace hits n (i ∷ is) t
    whole r shows missed h later =
        let size = item_length i in
        rw (parted, inverted_none hits n (item_bits i) (rw size missed), missed_spared hits n i missed)
        (onward shows (bits_from (n + item_size i) is) (rest.empty h (rw (missed_spared hits n i missed) at later)))

    -- bit k is, alone
    struck : (k : ℕ) → k < item_size i → Once hits n (item_size i) k → T (spaced i.command is) → Later
        → requests_of idle (bits_from n (i ∷ is)) ≡ hit_trace hits n (i ∷ is) t
    struck k inside once h later =
        let size = item_length i in
        let s = in_item i k inside in
        let same = once_affected hits n i k inside once in
        let after : requests_of s.end (bits_from (n + item_size i) is) ≡ hit_trace hits (n + item_size i) is t =
        ⊎_elim
        (λ e. let told : affected_by hits n i ≡ true = same ∙ e in rest.near i.command s.end s.resumes h (rw told at later))
        (λ e.
        let safe : affected_by hits n i ≡ false = same ∙ e in
        rw (s.empties e) (rest.empty (spaced_timed i.command is h) (rw safe at later)))
        (cases (affected i k)) in
        rw (parted, inverted_once hits n (item_bits i) k (rw size once))
        (onward s.shows (bits_from (n + item_size i) is) after
        ∙ ap (λ x. item_trace i x ++ hit_trace hits (n + item_size i) is t) (sym (once_stands hits n i k inside once)))

    one_item : ShowsAll n (i ∷ is)
    one_item = record {
      empty = λ h apart.
          let few = leb→le (hits_in hits n (item_size i)) 1 (and_left (leb (hits_in hits n (item_size i)) 1) _ apart) in
          let later = and_right (leb (hits_in hits n (item_size i)) 1) _ apart in
          ⊎_elim (λ missed. whole idle (clean_item i) missed (spaced_timed i.command is h) later)
          (λ once. struck once.0 once.1 once.2 h later) (count_one hits n (item_size i) few);
      near = λ c r resumes h apart.
          let none = leb→le (hits_in hits n (item_size i)) 0 (and_left (leb (hits_in hits n (item_size i)) 0) _ apart) in
          let asked = and_left (leb (zeros_between c i.command) i.ahead) _ h in
          let spaced_on = and_right (leb (zeros_between c i.command) i.ahead) _ h in
          whole r (resumed c r resumes i.command i.ahead (leb→le _ _ asked)) (count_none hits n (item_size i) none)
          (spaced_timed i.command is spaced_on) (and_right (leb (hits_in hits n (item_size i)) 0) _ apart);
    }

  shows_all : (n : ℕ) (is : List Item) → ShowsAll n is
  shows_all n [] = no_item n
  shows_all n (i ∷ is) = one_item n i is (shows_all (n + item_size i) is)

-- anywhere in a clean stream
pub hit_run : (hits : HitCycles) (n : ℕ) (is : List Item) (t : ℕ) → T (timed is) → T (apart_by_items hits false n is t)
    → requests_of idle (inverted_at hits n (stream_bits is t)) ≡ hit_trace hits n is t
hit_run hits n is t = (shows_all hits t n is).empty
