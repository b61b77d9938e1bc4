-- A taking call as a step of the run: it keeps all that is printed in the end.
-- Assumes nothing.
use Rattle.std.proofs.Common.{◌≡◌, ℕ, ◌+◌, ◌-◌, ◌*◌, ◌<◌, ◌≤◌, Bool, true, false, cond, T, eqb, List, [], length, refl, ap, ◌∙◌, arith}
use mathlib.Core.Path.{subst⁻¹}
use borrow.Author.Tests.{eqb-false}
use Rattle.bits.proofs.Truth.{choice}
use Rattle.decoder.specs.Sound.{sound_of}
use Rattle.calls.specs.Turn.{System}
use Rattle.calls.specs.Take.{Call, CallResult, take_of}
use Rattle.calls.proofs.SoundnessKept.{take_sound}
use Rattle.output.specs.Block.{block, put_all}
use Rattle.output.proofs.Pieces.{put_end_within}
use Rattle.line_meanings.specs.declared.LineNotes.{LineNotes}
use Rattle.line_meanings.specs.Line.{line_bytes}
use Rattle.line_meanings.specs.Lines.{read_from}
use Rattle.listing.specs.Records.{records_text}
use Rattle.program.specs.Listing.{refusal, no_refusal, Outcome, outcome, print_first, listing_of}
use Rattle.program.specs.RunState.{Snapshot, snapshot, system_at, block_then, still_to_print, all_printed, WellFormed, StepReady, AfterTake}
use Rattle.program.specs.RunState.{line_bits, list_words, clock_number, work_left}
use Rattle.program.proofs.OutputBlock.{put_then}
use Rattle.program.proofs.TakingCall.{CallFits, CallPrints, words_written, call_prints}

-- The call that a step makes, and the run after it.
abbrev pub call_of : Snapshot → List ℕ → Call
call_of g list = record {
  input = g.state.bytes;
  first = g.state.first;
  count = g.state.count;
  store = g.store;
  tray = g.tray;
  list = list;
  free = 0;
}

abbrev pub after_call_of : Snapshot → CallResult → ℕ → List ℕ → Snapshot
after_call_of g l place out =
    let s = g.state in
    let bits = l.taken.report.bits in
    snapshot (record {
      decoder = l.taken.decoder;
      line = s.line;
      lines = s.lines;
      bytes = s.bytes;
      first = s.first + bits;
      count = s.count - bits;
      next = s.next;
      length = s.length;
      filled = place;
      eof = s.eof;
      over = eqb bits 0;
      number = clock_number bits;
    }) l.store l.tray out

-- what ended the run, if the call took no bits
ended_at_clock : (none : Bool) (n : ℕ) (notes : LineNotes) (s : System) (rest : Outcome) → let number : ℕ = cond none 6 0 in
    cond none (outcome [] (cond (eqb number 0) no_refusal (refusal number n notes)) s) rest ≡ cond none (outcome [] (refusal 6 n notes) s) rest
ended_at_clock true n notes s rest = refl
ended_at_clock false n notes s rest = refl

-- What is known of the call, and of what it leaves.
pub record CallMade (g : Snapshot) (list : List ℕ) (l : CallResult) : Type 0 where
  pub ready : StepReady g
  pub some : 0 < g.state.count
  pub bytes : length g.state.bytes ≡ line_bytes
  pub words : length list ≡ list_words
  pub result : l ≡ take_of g.state.decoder (call_of g list)

module _ (frames : Bool) {g : Snapshot} {list : List ℕ} {l : CallResult} (made : CallMade g list l) where
  call_fits : CallFits g.state.decoder (call_of g list)
  call_fits = let w = made.ready.well_formed in record {
    sound = w.sound;
    store = w.store;
    tray = w.tray;
    list = made.words;
    free = refl;
    input = made.bytes;
    range = w.range;
    some = made.some;
  }

  pub call_printed : CallPrints frames g.state.decoder (call_of g list) l
  call_printed =
      subst⁻¹ (CallPrints frames g.state.decoder (call_of g list)) made.result (call_prints frames g.state.decoder (call_of g list) call_fits)

  -- the lines of its records fit the block
  pub records_fit : length l.tray ≡ length g.tray → g.state.filled + length (records_text frames l.tray (words_written l)) ≤ length g.out
  records_fit tray = omega (arith, call_printed.short, made.ready.room, made.ready.well_formed.tray)

  -- once they are put
  module _ (store : length l.store ≡ length g.store) (tray : length l.tray ≡ length g.tray) (out : List ℕ) (place : ℕ)
      (p : block out place ≡ put_all g.out g.state.filled (records_text frames l.tray (words_written l))) where
    abbrev h : Snapshot
    h = after_call_of g l place out

    well_formed : WellFormed h
    well_formed = let w = made.ready.well_formed in record {
      sound = subst⁻¹ (λ (m : CallResult). T (sound_of m.taken.decoder)) made.result (take_sound _ _ w.sound);
      store = store ∙ w.store;
      tray = tray ∙ w.tray;
      range = omega (arith, call_printed.low, w.range);
      filled = put_end_within g.out (records_text frames l.tray (words_written l)) out g.state.filled place p (records_fit tray);
    }

    same_listing : (characters : List ℕ) → all_printed frames h characters ≡ all_printed frames g characters
    unfolding still_to_print
    same_listing characters =
        let lines : System → Outcome = λ w. listing_of frames w g.state.lines (read_from g.state.line characters) in
        put_then g.out (records_text frames l.tray (words_written l)) out g.state.filled place p (records_fit tray) (still_to_print frames h characters)
        ∙ rw made.ready.not_over
        (ap (block_then g) (ap (print_first (records_text frames l.tray (words_written l)))
        (ended_at_clock (eqb l.taken.report.bits 0) g.state.lines g.state.line.notes (system_at h) _)
        ∙ call_printed.same g.state.lines g.state.line.notes lines))

    less_work : (input : ℕ) → work_left input h.state < work_left input g.state
    less_work input =
        let bits = l.taken.report.bits in
        let low = call_printed.low in
        let rest = (line_bits + 1) * (input - g.state.next) in
        rw made.ready.not_over
        (choice (λ (n : ℕ). n + rest + (g.state.count - bits) < 1 + rest + g.state.count) (eqb bits 0)
        (λ b. omega arith)
        (λ b. omega (arith, eqb-false bits 0 b)))

    pub after_take : AfterTake frames g h
    after_take = record { well_formed = well_formed; same_listing = same_listing; same_next = refl; same_length = refl; same_eof = refl; less_work = less_work }
