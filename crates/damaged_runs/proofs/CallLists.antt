-- Lists of taking calls over a clean or damaged stream write the records of its trace.
-- Assumes nothing.
use mathlib.Core.Path.{◌≡◌, ◌∙◌, refl, sym, ap, ap₂}
use mathlib.Core.Bool.{Bool, true, false, ◌&&◌}
use mathlib.Core.List.{List, [], ◌∷◌, ◌++◌, append-nil}
use Prim.Native.Nat.{ℕ, zero, suc, ◌+◌, ◌/◌, ◌%◌, ◌^◌}
use native.Mathlib.Omega.{arith}
use lib.Dec.{eqb, T}
use lib.ListN.{length, get_or, length-append}
use Rattle.bits.proofs.Truth.{and_both, and_left, and_right}
use Rattle.recogniser.specs.declared.Phase.TheVariants.{Hunt}
use Rattle.recogniser.specs.declared.Request.{Request}
use Rattle.recogniser.specs.declared.Recogniser.{Recogniser}
use Rattle.recogniser.specs.declared.Transition.{Transition}
use Rattle.recogniser.specs.Parts.{idle}
use Rattle.recogniser.specs.Step.{step_of}
use Rattle.registers.specs.Registers.{cnt_of}
use Rattle.decoder.specs.declared.Decoder.{Decoder}
use Rattle.records.specs.declared.Record.{Record}
use Rattle.records.specs.Records.{head_of, record_words, words_of}
use Rattle.controller.proofs.RequestsFit.{step_request_fits}
use Rattle.calls.specs.Run.{state_after, words_after}
use Rattle.calls.specs.Turn.{System, decoder_of, cnt_at, turn_of}
use Rattle.calls.specs.Take.{Call, take_of, lent}
use Rattle.calls.specs.Calls.{bits_taken, words_standing, all_bits, all_words, state_left}
use Rattle.calls.proofs.CallLists.{call_kept}
use Rattle.clean_streams.specs.Commands.{Command, width_of}
use Rattle.clean_streams.specs.CleanStreams.{Item, item_size, stream_bits, timed}
use Rattle.damage.specs.Table.{Replacement, itself}
use Rattle.damage.specs.Hits.{HitCycles, inverted_at, stands_in, apart_by_items}
use Rattle.damage.specs.Traces.{requests_of, recogniser_after, quiet, spread, item_trace, clean_trace, hit_trace}
use Rattle.damage.specs.Records.{Recording, ahead_of, sends, followed_by, performed, request_records, clean_records, clean_ahead, hit_records, hit_ahead}
use Rattle.damaged_runs.proofs.TracesJoined.{requests_append, after_append, length_requests}
use Rattle.damaged_runs.proofs.Recovery.{clean_run}
use Rattle.damage.proofs.Replacements.{Passes, own_passes}
use Rattle.damage.proofs.HitItems.{stands_passes}
use Rattle.damaged_runs.proofs.HitRuns.{hit_run}
use Rattle.damaged_runs.proofs.TraceRecords.{performed_append, performed_clean, performed_hit}
use Rattle.damaged_runs.proofs.RunModeEffects.{outside_slow, no_slow, step_any_cnt, step_stays_outside, from_empty, does}

-- no request of a trace leads into a Slow command
abbrev no_slow_in : List Request → Bool
no_slow_in [] = true
no_slow_in (e ∷ es) = no_slow e && no_slow_in es

no_slow_in_left : (es fs : List Request) → T (no_slow_in (es ++ fs)) → T (no_slow_in es)
no_slow_in_left [] fs h = tt
no_slow_in_left (e ∷ es) fs h = and_both (no_slow e) (no_slow_in es) (and_left (no_slow e) _ h) (no_slow_in_left es fs (and_right (no_slow e) _ h))

no_slow_in_right : (es fs : List Request) → T (no_slow_in (es ++ fs)) → T (no_slow_in fs)
no_slow_in_right [] fs h = h
no_slow_in_right (e ∷ es) fs h = no_slow_in_right es fs (and_right (no_slow e) _ h)

no_slow_in_append : (es fs : List Request) → T (no_slow_in es) → T (no_slow_in fs) → T (no_slow_in (es ++ fs))
no_slow_in_append [] fs h k = k
no_slow_in_append (e ∷ es) fs h k = and_both (no_slow e) (no_slow_in (es ++ fs)) (and_left (no_slow e) _ h) (no_slow_in_append es fs (and_right (no_slow e) _ h) k)

no_slow_in_quiet : (n : ℕ) → T (no_slow_in (quiet n))
no_slow_in_quiet zero = tt
no_slow_in_quiet (suc n) = no_slow_in_quiet n

record_words_append : (es fs : List Record) → record_words (es ++ fs) ≡ record_words es ++ record_words fs
record_words_append [] fs = refl
record_words_append (e ∷ es) fs = ap (λ l. head_of e ∷ e.value ∷ l) (record_words_append es fs)

abbrev trace : Decoder → List ℕ → List Request
trace d bits = requests_of d.recogniser bits

abbrev performs : Decoder → List ℕ → Recording
performs d bits = performed (sends d) (ahead_of d) d.next (trace d bits)

-- From d the bits lead to v and write the words, RunMode on, as the trace says.
record Follows (d : Decoder) (bits : List ℕ) (v : Decoder) (words : List ℕ) : Type 0 where
  written : words ≡ record_words (performs d bits).records
  stands : v.recogniser ≡ recogniser_after d.recogniser bits
  ahead : ahead_of v ≡ (performs d bits).after
  next : v.next ≡ d.next + length bits
  running : v.model.running ≡ true
  sent : sends v ≡ sends d
  outside : T (outside_slow v.recogniser.phase)

follows_none : (d : Decoder) → d.model.running ≡ true → T (outside_slow d.recogniser.phase) → Follows d [] d []
unfolding performed requests_of recogniser_after
follows_none d r q = record { written = refl; stands = refl; ahead = refl; next = omega arith; running = r; sent = refl; outside = q }

follows_append : {d v u : Decoder} {xs ys : List ℕ} {ws zs : List ℕ} → Follows d xs v ws → Follows v ys u zs → Follows d (xs ++ ys) u (ws ++ zs)
follows_append {d} {v} {u} {xs} {ys} {ws} {zs} a b =
    let p : Recording = performs d xs in
    let later : List Request = requests_of (recogniser_after d.recogniser xs) ys in
    let q : Recording = performed (sends d) p.after (d.next + length xs) later in
    let on : performs v ys ≡ q = λ i. performed (a.sent i) (a.ahead i) (a.next i) (requests_of (a.stands i) ys) in
    let joined : performs d (xs ++ ys) ≡ followed_by p.records q =
    rw (requests_append d.recogniser xs ys, performed_append (sends d) (ahead_of d) d.next (trace d xs) later, length_requests d.recogniser xs) in
    record {
      written = ap₂ ◌++◌ a.written (b.written ∙ ap (λ (r : Recording). record_words r.records) on)
          ∙ sym (ap (λ (r : Recording). record_words r.records) joined ∙ record_words_append p.records q.records);
      stands = b.stands ∙ ap (λ (r : Recogniser). recogniser_after r ys) a.stands ∙ sym (after_append d.recogniser xs ys);
      ahead = b.ahead ∙ ap (λ (r : Recording). r.after) on ∙ sym (ap (λ (r : Recording). r.after) joined);
      next = let e = a.next in let f = b.next in rw length-append (omega arith);
      running = b.running;
      sent = b.sent ∙ a.sent;
      outside = b.outside;
    }

-- one cycle
follows_one : (s : System) (bit : ℕ) → s.machine.model.running ≡ true → T (outside_slow s.recogniser.phase)
    → T (no_slow (step_of s.recogniser bit 0).event.request)
    → Follows (decoder_of s) (bit ∷ []) (decoder_of (turn_of s bit).state) (words_of (turn_of s bit).cycle)
unfolding turn_of performed requests_of recogniser_after
follows_one s bit r q h =
    let m = s.machine in
    let d : Decoder = decoder_of s in
    let e : step_of s.recogniser bit (cnt_of m.plan m.model) ≡ step_of s.recogniser bit 0 = step_any_cnt s.recogniser bit _ q in
    let x : Request = (step_of s.recogniser bit 0).event.request in
    let f = does m.plan m.model m.earlier (cnt_at m) m.next m.store r x (step_request_fits s.recogniser bit 0) h in
    rw e
    (record {
      written = f.words ∙ ap record_words (sym (append-nil (request_records (sends d) (ahead_of d) d.next x)));
      stands = refl;
      ahead = f.after;
      next = omega arith;
      running = f.running;
      sent = ap (λ (l : List ℕ). eqb (get_or l m.plan.csr 0 / 2 ^ 6 % 2) 0) f.registers;
      outside = step_stays_outside s.recogniser bit q h;
    })

-- the trace after one cycle
after_one : (s : System) (bit : ℕ) (bits : List ℕ) → (turn_of s bit).state.recogniser ≡ recogniser_after s.recogniser (bit ∷ [])
    → T (no_slow_in (requests_of (step_of s.recogniser bit 0).next bits)) → T (no_slow_in (requests_of (turn_of s bit).state.recogniser bits))
unfolding recogniser_after
after_one s bit bits e h = rw e h

-- any bits whose trace has no Slow command, whatever store and tray are lent
follows_bits : (bits : List ℕ) (s : System) → s.machine.model.running ≡ true → T (outside_slow s.recogniser.phase)
    → T (no_slow_in (requests_of s.recogniser bits)) → Follows (decoder_of s) bits (decoder_of (state_after turn_of s bits)) (words_after turn_of s bits)
unfolding requests_of
follows_bits [] s r q h = follows_none (decoder_of s) r q
follows_bits (bit ∷ bits) s r q h =
    let x : Request = (step_of s.recogniser bit 0).event.request in
    let a = follows_one s bit r q (and_left (no_slow x) _ h) in
    follows_append a (follows_bits bits (turn_of s bit).state a.running a.outside (after_one s bit bits a.stands (and_right (no_slow x) _ h)))

-- a call, and a list of calls
follows_call : (d : Decoder) (c : Call) → d.model.running ≡ true → T (outside_slow d.recogniser.phase) → T (no_slow_in (trace d (bits_taken d c)))
    → Follows d (bits_taken d c) (take_of d c).taken.decoder (words_standing d c)
follows_call d c r q h =
    let k = call_kept d c in
    let f = follows_bits (bits_taken d c) (lent d c) r q h in
    let e : (take_of d c).taken.decoder ≡ decoder_of (state_after turn_of (lent d c) (bits_taken d c)) = ap decoder_of k.system in
    rw (e, k.words) f

follows_calls : (cs : List Call) (d : Decoder) → d.model.running ≡ true → T (outside_slow d.recogniser.phase) → T (no_slow_in (trace d (all_bits d cs)))
    → Follows d (all_bits d cs) (state_left d cs) (all_words d cs)
unfolding all_bits all_words state_left
follows_calls [] d r q h = follows_none d r q
follows_calls (c ∷ cs) d r q h =
    let v : Decoder = (take_of d c).taken.decoder in
    let xs : List ℕ = bits_taken d c in
    let ys : List ℕ = all_bits v cs in
    let later : List Request = requests_of (recogniser_after d.recogniser xs) ys in
    let k : T (no_slow_in (trace d xs ++ later)) = rw (← requests_append d.recogniser xs ys) h in
    let a = follows_call d c r q (no_slow_in_left (trace d xs) later k) in
    follows_append a (follows_calls cs v a.running a.outside (rw a.stands (no_slow_in_right (trace d xs) later k)))

-- clean and damaged traces have no Slow command: computed for what stands in a command's place
abbrev no_slow_at : Command → Replacement → Bool
no_slow_at c x = no_slow_in (spread (width_of c) x)

no_slow_passes : Passes no_slow_at
no_slow_passes = record { own = refl; hit = refl; near = refl }

no_slow_item : (i : Item) (x : Replacement) → T (no_slow_at i.command x) → T (no_slow_in (item_trace i x))
no_slow_item i x h = no_slow_in_append (quiet i.ahead) (spread (width_of i.command) x) (no_slow_in_quiet i.ahead) h

no_slow_clean : (is : List Item) (t : ℕ) → T (no_slow_in (clean_trace is t))
no_slow_clean [] t = no_slow_in_quiet t
no_slow_clean (i ∷ is) t =
    let own = no_slow_item i (itself i.command) (own_passes no_slow_at no_slow_passes i.command) in
    no_slow_in_append (item_trace i (itself i.command)) (clean_trace is t) own (no_slow_clean is t)

no_slow_hit : (hits : HitCycles) (n : ℕ) (is : List Item) (t : ℕ) → T (no_slow_in (hit_trace hits n is t))
no_slow_hit hits n [] t = no_slow_in_quiet t
no_slow_hit hits n (i ∷ is) t =
    let stands = no_slow_item i (stands_in hits n i) (stands_passes no_slow_at no_slow_passes hits n i) in
    no_slow_in_append (item_trace i (stands_in hits n i)) (hit_trace hits (n + item_size i) is t) stands (no_slow_hit hits (n + item_size i) is t)

-- the trace from a state that hunts with an empty window is that of an empty recogniser
hunting_trace : (r : Recogniser) (bits : List ℕ) → r.phase ≡ Hunt → r.shift ≡ 0 → requests_of r bits ≡ requests_of idle bits
unfolding requests_of
hunting_trace r [] h e = refl
hunting_trace r (bit ∷ bits) h e = ap (λ (x : Transition). x.event.request ∷ requests_of x.next bits) (from_empty r bit h e)

-- What a list of calls has written, and what stands ahead of the next command in the state that it left.
pub record Recorded (d : Decoder) (cs : List Call) (r : Recording) : Type 0 where
  pub words : all_words d cs ≡ record_words r.records
  pub after : ahead_of (state_left d cs) ≡ r.after

-- A list of calls in RunMode, from an empty window, whose bits have a trace with no Slow command records what that trace says.
module _ (d : Decoder) (running : d.model.running ≡ true) (hunting : d.recogniser.phase ≡ Hunt) (empty : d.recogniser.shift ≡ 0) where
  records : (cs : List Call) (es : List Request) (r : Recording) → requests_of idle (all_bits d cs) ≡ es → T (no_slow_in es)
      → performed (sends d) (ahead_of d) d.next es ≡ r → Recorded d cs r
  records cs es r e h p =
      let t : trace d (all_bits d cs) ≡ es = hunting_trace d.recogniser (all_bits d cs) hunting empty ∙ e in
      let f = follows_calls cs d running (rw hunting tt) (rw t h) in
      let same : performs d (all_bits d cs) ≡ r = ap (performed (sends d) (ahead_of d) d.next) t ∙ p in
      record { words = f.written ∙ ap (λ (r : Recording). record_words r.records) same; after = f.ahead ∙ ap (λ (r : Recording). r.after) same }

  pub clean_recorded : (cs : List Call) (is : List Item) (t : ℕ) → all_bits d cs ≡ stream_bits is t
      → Recorded d cs (record { records = clean_records (sends d) (ahead_of d) d.next is; after = clean_ahead (ahead_of d) d.next is })
  clean_recorded cs is t e =
      records cs (clean_trace is t) _ (ap (requests_of idle) e ∙ clean_run is t) (no_slow_clean is t) (performed_clean (sends d) (ahead_of d) d.next is t)

  pub hit_recorded : (cs : List Call) (hits : HitCycles) (is : List Item) (t : ℕ) → T (timed is) → T (apart_by_items hits false d.next is t)
      → all_bits d cs ≡ inverted_at hits d.next (stream_bits is t)
      → Recorded d cs (record { records = hit_records (sends d) hits (ahead_of d) d.next is; after = hit_ahead hits (ahead_of d) d.next is })
  hit_recorded cs hits is t h apart e =
      records cs (hit_trace hits d.next is t) _ (ap (requests_of idle) e ∙ hit_run hits d.next is t h apart) (no_slow_hit hits d.next is t)
      (performed_hit (sends d) hits (ahead_of d) d.next is t)
