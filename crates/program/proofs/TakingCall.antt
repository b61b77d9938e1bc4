-- A taking call of a line's bits: what it answers, and that its records' lines are printed next.
-- Assumes nothing.
use Rattle.std.proofs.Common.{◌≡◌, ℕ, zero, suc, ◌+◌, ◌-◌, ◌*◌, ◌/◌, ◌<◌, ◌≤◌, Bool, true, false, cond, T, eqb, List, [], ◌++◌, length, take, drop, refl, ap, ◌∙◌, append_assoc, arith, take_at, ne_eqb, le-leb, leb-true}
use mathlib.Core.Path.{subst⁻¹}
use lib.Seq.{sets, sets-eq}
use Rattle.bits.specs.Bits.{bits_of}
use Rattle.bits.proofs.Truth.{holds_true}
use Rattle.decoder.specs.declared.Decoder.{Decoder}
use Rattle.limits.specs.Limits.{clock_limit, store_length, tray_length}
use Rattle.decoder.specs.Sound.{sound_of}
use Rattle.calls.specs.declared.Ending.TheVariants.{ClockOver}
use Rattle.calls.specs.Run.{Run, run_of, state_after}
use Rattle.calls.specs.Turn.{System, turn_of}
use Rattle.calls.specs.Take.{Call, CallResult, lent, refused, clock_fits, taken_of, take_of}
use Rattle.calls.specs.Calls.{system_after}
use Rattle.calls.proofs.RunFaithful.{run_faithful}
use Rattle.calls.proofs.LoopInvariant.{length_bits}
use Rattle.calls.proofs.Refusals.{buffers, range, taken, clock_over}
use Rattle.line_meanings.specs.declared.LineNotes.{LineNotes}
use Rattle.line_meanings.specs.Line.{line_bytes}
use Rattle.listing.specs.Records.{records_text}
use Rattle.program.specs.RunState.{line_bits, list_words}
use Rattle.program.specs.Listing.{refusal, Outcome, outcome, print_first, bits_then, bits_text}
use Rattle.program.proofs.RunText.{run_prints, run_takes}

-- the bits after some of a range
drop_bits : (s : List ℕ) (place n k : ℕ) → k ≤ n → drop k (bits_of s place n) ≡ bits_of s (place + k) (n - k)
drop_bits s place n zero h = let e : place + 0 ≡ place = omega arith in let f : n - 0 ≡ n = omega arith in rw (e, f)
drop_bits s place zero (suc k) h = absurd (omega arith)
drop_bits s place (suc n) (suc k) h =
    let e : place + 1 + k ≡ place + suc k = omega arith in
    let f : suc n - suc k ≡ n - k = omega arith in
    rw f (drop_bits s (place + 1) n k (omega arith) ∙ ap (λ p. bits_of s p (n - k)) e)

-- The call as a run makes it: the bits of a line, and an empty list.
pub record CallFits (d : Decoder) (c : Call) : Type 0 where
  pub sound : T (sound_of d)
  pub store : length c.store ≡ store_length
  pub tray : length c.tray ≡ tray_length
  pub list : length c.list ≡ list_words
  pub free : c.free ≡ 0
  pub input : length c.input ≡ line_bytes
  pub range : c.first + c.count ≤ line_bits
  pub some : 0 < c.count

-- What the lines of its records are made from.
abbrev pub words_written : CallResult → List ℕ
words_written l = take (l.taken.report.records * 2) l.list

-- What is still to come after it: only a refused call takes no bits.
abbrev pub after_call : Bool → ℕ → LineNotes → Call → CallResult → (System → Outcome) → Outcome
after_call frames n notes c l rest =
    let bits = l.taken.report.bits in
    cond (eqb bits 0) (outcome [] (refusal 6 n notes) (system_after l))
    (bits_then frames (system_after l) n notes (bits_of c.input (c.first + bits) (c.count - bits)) rest)

pub record CallPrints (frames : Bool) (d : Decoder) (c : Call) (l : CallResult) : Type 0 where
  pub low : l.taken.report.bits ≤ c.count
  pub fits : l.taken.report.records * 2 ≤ list_words
  pub short : length (records_text frames l.tray (words_written l)) ≤ 14 * list_words + (2 * length l.tray + 2)
  pub same : (n : ℕ) (notes : LineNotes) (rest : System → Outcome)
      → print_first (records_text frames l.tray (words_written l)) (after_call frames n notes c l rest)
      ≡ bits_then frames (lent d c) n notes (bits_of c.input c.first c.count) rest

-- a part of some bits, and then the rest of them
bits_joined : (frames : Bool) (w v : System) (bits left text : List ℕ)
    → clock_fits w.machine.next (length bits) ≡ true → clock_fits v.machine.next (length left) ≡ true
    → bits_text frames w bits ≡ text ++ bits_text frames v left → state_after turn_of w bits ≡ state_after turn_of v left
    → (n : ℕ) (notes : LineNotes) (rest : System → Outcome) → print_first text (bits_then frames v n notes left rest) ≡ bits_then frames w n notes bits rest
bits_joined frames w v bits left text k k' e s n notes rest = rw (k, k', e, s, append_assoc)

-- the words of a run stand at the start of the list
words_at_start : (words list : List ℕ) (free : ℕ) → free ≡ 0 → length words / 2 * 2 ≡ length words → length words ≤ length list
    → take ((0 + length words / 2) * 2) (sets list free words) ≡ words
words_at_start words list free e all_printed fits =
    let n : (0 + length words / 2) * 2 ≡ length words = omega arith in
    rw (n, e, sets-eq words list 0 (omega arith)) (take_at words (drop (0 + length words) list) (length words) refl)

module _ (frames : Bool) (d : Decoder) (c : Call) (f : CallFits d c) where
  abbrev w : System
  w = lent d c

  abbrev offered : List ℕ
  offered = bits_of c.input c.first c.count

  -- refused at the clock's end
  at_clock_end : clock_fits d.next c.count ≡ false → CallPrints frames d c (refused d c ClockOver)
  unfolding records_text
  at_clock_end k = record {
    low = omega arith;
    fits = omega arith;
    short = omega arith;
    same = λ n notes rest. simp (length_bits c.input c.first c.count, k);
  }

  abbrev r : Run System
  r = run_of turn_of offered w (length c.list - c.free)

  words_of_run : words_written (taken_of d c) ≡ r.words
  unfolding taken_of
  words_of_run =
      let q = run_faithful turn_of offered w (length c.list - c.free) in
      let h = q.fits in
      words_at_start r.words c.list c.free f.free q.whole (omega arith)

  call_runs : clock_fits d.next c.count ≡ true → CallPrints frames d c (taken_of d c)
  unfolding taken_of
  call_runs k =
      let room = length c.list - c.free in
      let long = length_bits c.input c.first c.count in
      let q = run_faithful turn_of offered w room in
      let p = run_prints frames offered w room in
      let some = run_takes offered w room (omega (arith, f.some)) (omega (arith, f.list, f.free)) in
      let low : r.bits ≤ c.count = omega (arith, q.taken) in
      let z : 0 + r.bits ≡ r.bits = omega arith in
      let left = drop_bits c.input c.first c.count r.bits low in
      let clock = leb-true (d.next + c.count) clock_limit k in
      record {
        low = omega arith;
        fits = omega (arith, q.fits, f.list);
        short = rw words_of_run (omega (arith, p.short, f.list, f.free));
        same = λ n notes rest.
            rw (z, words_of_run, ne_eqb r.bits 0 (λ e. omega arith), ← left)
            (bits_joined frames w r.state offered (drop r.bits offered) (records_text frames r.state.machine.tray r.words) (rw long k)
            (le-leb (r.state.machine.next + length (drop r.bits offered)) clock_limit (rw (p.next, left, length_bits) (omega arith)))
            p.text p.state n notes rest);
      }

  sound_state : sound_of d ≡ true
  sound_state = holds_true (sound_of d) f.sound

  buffers_fit : buffers c ≡ true
  buffers_fit = rw (f.store, f.tray, f.list, f.free)

  range_fit : range c ≡ true
  range_fit = rw (f.input, le-leb (c.first + c.count) line_bits f.range)

  by_clock : (b : Bool) → clock_fits d.next c.count ≡ b → CallPrints frames d c (take_of d c)
  by_clock true k = subst⁻¹ (CallPrints frames d c) (taken d c sound_state buffers_fit range_fit k) (call_runs k)
  by_clock false k = subst⁻¹ (CallPrints frames d c) (clock_over d c sound_state buffers_fit range_fit k) (at_clock_end k)

  pub call_prints : CallPrints frames d c (take_of d c)
  call_prints = by_clock (clock_fits d.next c.count) refl
