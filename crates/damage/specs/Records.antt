-- The records of clean and damaged streams in RunMode, by the counters and the record ahead of each (document 01, "A record" and "The damage table"; document
-- 02, F-5 and F-13).
-- Assumes nothing.
use Rattle.std.specs.Prelude.{Bool, true, false, cond, List, [], ◌∷◌, ◌++◌, ℕ, suc, ◌+◌, ◌-◌, ltb}
use Rattle.recogniser.specs.declared.Request.{Request}
use Rattle.recogniser.specs.declared.Request.TheVariants.{Nothing, Lv1, Fast, BadFast, Slow}
use Rattle.registers.specs.declared.Counters.{Counters}
use Rattle.records.specs.declared.Record.{Record}
use Rattle.triggers.specs.Triggers.{sends_of, lv1_record, lv1_counted, fast_record, fast_counted, bad_fast_record}
use Rattle.timing.specs.declared.Earlier.{Earlier}
use Rattle.timing.specs.TooClose.{earlier_of, flagged}
use Rattle.decoder.specs.declared.Decoder.{Decoder}
use Rattle.clean_streams.specs.Commands.{width_of}
use Rattle.damage.specs.Requests.{request_of}
use Rattle.clean_streams.specs.CleanStreams.{Item, item_size}
use Rattle.damage.specs.Table.{Replacement, nothing, at, replacement_of}
use Rattle.damage.specs.Hits.{HitCycles, stands_in}

-- What stands ahead of a command: the counters, L1ID and the base cycle, and the record before it.
pub record Ahead : Type 0 where
  pub counters : Counters
  pub earlier : Earlier

abbrev pub ahead : Counters → Earlier → Ahead
ahead counters earlier = record { counters = counters; earlier = earlier }

abbrev pub ahead_of : Decoder → Ahead
ahead_of d = ahead d.model.counters d.earlier

-- Whether a state's CSR lets an LV1 be sent to the front ends.
abbrev pub sends : Decoder → Bool
sends d = sends_of d.plan d.model

-- What a request at a cycle records, RunMode on, and what then stands ahead of the next. A clean or damaged stream brings no Slow command, and no other
-- record's flag goes by CNT.
pub record Recording : Type 0 where
  pub records : List Record
  pub after : Ahead

abbrev pub silence : Ahead → Recording
silence a = record { records = []; after = a }

abbrev pub recording : Ahead → Record → Counters → Recording
recording a r counters = record { records = flagged a.earlier 0 r ∷ []; after = ahead counters (earlier_of r) }

abbrev pub recording_of : Bool → Ahead → ℕ → Request → Recording
recording_of sent a time Nothing = silence a
recording_of sent a time (Lv1 position) = recording a (lv1_record true position sent a.counters time) (lv1_counted a.counters)
recording_of sent a time (Fast body) = recording a (fast_record true body time) (fast_counted body time a.counters)
recording_of sent a time (BadFast body) = recording a (bad_fast_record body time) a.counters
recording_of sent a time (Slow slow) = silence a

abbrev pub request_records : Bool → Ahead → ℕ → Request → List Record
request_records sent a time q = (recording_of sent a time q).records

abbrev pub ahead_after : Ahead → ℕ → Request → Ahead
ahead_after a time q = (recording_of false a time q).after

-- Records, and then a recording.
abbrev pub followed_by : List Record → Recording → Recording
followed_by records r = record { records = records ++ r.records; after = r.after }

-- What a trace that begins at cycle n records, and what stands ahead of the next command after it.
unfoldable pub performed : Bool → Ahead → ℕ → List Request → Recording
performed sent a n [] = silence a
performed sent a n (e ∷ es) = followed_by (request_records sent a n e) (performed sent (ahead_after a n e) (suc n) es)

-- The cycle of a command's last bit, in a stream whose first bit is cycle n.
abbrev pub last_cycle : ℕ → Item → ℕ
last_cycle n i = n + i.ahead + (width_of i.command - 1)

-- The paper's record for one command, and for each command of a stream and no other.
abbrev pub item_records : Bool → Ahead → ℕ → Item → List Record
item_records sent a n i = request_records sent a (last_cycle n i) (request_of i.command)

abbrev pub item_ahead : Ahead → ℕ → Item → Ahead
item_ahead a n i = ahead_after a (last_cycle n i) (request_of i.command)

abbrev pub clean_records : Bool → Ahead → ℕ → List Item → List Record
clean_records sent a n [] = []
clean_records sent a n (i ∷ is) = item_records sent a n i ++ clean_records sent (item_ahead a n i) (n + item_size i) is

-- What stands ahead of the next command after a clean stream.
abbrev pub clean_ahead : Ahead → ℕ → List Item → Ahead
clean_ahead a n [] = a
clean_ahead a n (i ∷ is) = clean_ahead (item_ahead a n i) (n + item_size i) is

-- What the table puts in a command's place: "The new one's time is that bit's cycle, its kind, flags and value those of 'A record', by the clean counters
-- ahead of that command", or by the damaged run's (document 02, F-13): by those of a. n is the cycle of the command's first bit. Its flag 20 goes by the
-- record before it in its own run (F-5).
abbrev pub replacement_records : Bool → Ahead → ℕ → Replacement → List Record
replacement_records sent a n nothing = []
replacement_records sent a n (at p e) = request_records sent a (n + (p - 1)) e

abbrev pub replacement_ahead : Ahead → ℕ → Replacement → Ahead
replacement_ahead a n nothing = a
replacement_ahead a n (at p e) = ahead_after a (n + (p - 1)) e

-- "The damaged records are the clean ones with the affected one replaced, or left out at 'none'."
abbrev pub damaged_records : Bool → Ahead → ℕ → List Item → ℕ → List Record
damaged_records sent a n [] k = []
damaged_records sent a n (i ∷ is) k =
    cond (ltb k (item_size i))
    (replacement_records sent a (n + i.ahead) (replacement_of i k)
    ++ clean_records sent (replacement_ahead a (n + i.ahead) (replacement_of i k)) (n + item_size i) is)
    (item_records sent a n i ++ damaged_records sent (item_ahead a n i) (n + item_size i) is (k - item_size i))

-- Any number of inverted bits: what stands ahead of the next command after an item, in the damaged run.
abbrev pub hit_after : HitCycles → Ahead → ℕ → Item → Ahead
hit_after hits a n i = replacement_ahead a (n + i.ahead) (stands_in hits n i)

-- Each command as itself or, if it is affected, as the table has it, "its trigger and bunch numbers by the damaged run's counters ahead of it instead of
-- the clean ones" (document 02, F-13).
abbrev pub hit_records : Bool → HitCycles → Ahead → ℕ → List Item → List Record
hit_records sent hits a n [] = []
hit_records sent hits a n (i ∷ is) =
    replacement_records sent a (n + i.ahead) (stands_in hits n i) ++ hit_records sent hits (hit_after hits a n i) (n + item_size i) is

-- What stands ahead of the next command after the whole stream.
abbrev pub hit_ahead : HitCycles → Ahead → ℕ → List Item → Ahead
hit_ahead hits a n [] = a
hit_ahead hits a n (i ∷ is) = hit_ahead hits (hit_after hits a n i) (n + item_size i) is
