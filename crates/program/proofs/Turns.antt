-- What holds of a run from turn to turn, and what turns in a row print: the program's text for all the characters that they read.
-- Assumes nothing.
use Rattle.std.proofs.Common.{◌≡◌, ℕ, ◌≤◌, Bool, true, false, eqb, List, [], ◌∷◌, ◌++◌, length, take, set, sym, refl, ap, ◌∙◌, append_assoc, append-nil, arith, length-set, length-take, eqb-true}
use borrow.Author.Tests.{eqb-false}
use Rattle.limits.specs.Limits.{store_length, tray_length}
use Rattle.output.specs.Ascii.{line_feed}
use Rattle.output.specs.Block.{block_length}
use Rattle.line_meanings.specs.Lines.{no_characters}
use Rattle.program.specs.declared.PrintOptions.{PrintOptions}
use Rattle.program.specs.declared.RunState.{RunState}
use Rattle.program.specs.Listing.{outcome, state_lines}
use Rattle.program.specs.RunState.{start, Snapshot, snapshot, end_of, system_at, WellFormed, PlacesInBlock, AfterSteps}
use Rattle.program.specs.RunState.{with_input, wants_input, received_of}
use Rattle.program.specs.Program.{Standing, program_of}
use Rattle.program.specs.Turns.{Refill, characters_read, emptied, text_put, Turn, TurnMade, TurnsMade, all_read, all_written, last_of}
use Rattle.program.proofs.WellFormed.{well_formed_with, input_well_formed}
use Rattle.program.proofs.Standing.{start_well_formed, start_stands, characters_stand, end_stands, steps_stand, write_stands, over_stands}

pub record BetweenReads (frames : Bool) (store₀ tray₀ characters written : List ℕ) (s : RunState) (store tray input output : List ℕ) : Type 0 where
  pub stands : Standing frames store₀ tray₀ characters written (snapshot s store tray output) input
  pub well_formed : WellFormed (snapshot s store tray output)
  pub places : PlacesInBlock s
  pub input_length : length input ≡ block_length
  pub output_length : length output ≡ block_length
  pub empty : s.filled ≡ 0

pub begins : (frames : Bool) (store tray input output : List ℕ) → length store ≡ store_length → length tray ≡ tray_length
    → length input ≡ block_length → length output ≡ block_length → (s : RunState) → s ≡ start → BetweenReads frames store tray [] [] s store tray input output
begins frames store tray input output long wide i o s e = rw e (record {
  stands = start_stands frames store tray output input long wide;
  well_formed = start_well_formed store tray output long wide;
  places = record { next = omega arith; length = omega arith };
  input_length = i;
  output_length = o;
  empty = refl;
})

-- ---- after a read

module _ {frames : Bool} {store₀ tray₀ characters written : List ℕ} {s : RunState} {store tray input output : List ℕ}
    (b : BetweenReads frames store₀ tray₀ characters written s store tray input output) where
  abbrev Received : List ℕ → RunState → List ℕ → Type 0
  Received read r block = BetweenReads frames store₀ tray₀ (characters ++ read) written r store tray block output

  module _ (due : wants_input s ≡ true) (block : List ℕ) (long : length block ≡ length input) where
    brought_characters : (got : ℕ) → got ≤ length input → s.eof ≡ false
        → Received (take got block) (with_input s s.line 0 got s.eof s.over s.number) block
    brought_characters got few e = record {
      stands = characters_stand b.stands due got block e;
      well_formed = input_well_formed b.well_formed s.line 0 got s.eof s.over s.number;
      places = record { next = omega arith; length = omega (arith, b.input_length) };
      input_length = long ∙ b.input_length;
      output_length = b.output_length;
      empty = b.empty;
    }

    brought_none : s.over ≡ false → Received [] (with_input s s.line 0 1 true (no_characters s.line) 0) (set block 0 line_feed)
    brought_none under_way = rw (append-nil characters) (record {
      stands = end_stands b.stands due b.well_formed under_way block (omega (arith, long, b.input_length));
      well_formed = input_well_formed b.well_formed s.line 0 1 true (no_characters s.line) 0;
      places = record { next = omega arith; length = omega arith };
      input_length = length-set block 0 line_feed ∙ long ∙ b.input_length;
      output_length = b.output_length;
      empty = b.empty;
    })

  module _ (under_way : s.over ≡ false) {got : ℕ} {brought : List ℕ} {r : RunState} {input' : List ℕ} (a : Refill s input got brought r input') where
    -- characters come only before the input's end
    not_ended : (eof : Bool) → s.eof ≡ eof → eqb got 0 ≡ false → s.eof ≡ false
    not_ended true e some = absurd (eqb-false got 0 some (a.ended e))
    not_ended false e some = e

    by_count : wants_input s ≡ true → (none : Bool) → eqb got 0 ≡ none → Received (characters_read s got brought) r input'
    unfolding received_of
    by_count due true e = rw (a.state, a.block, due, e, eqb-true got 0 e) (brought_none due brought a.long under_way)
    by_count due false e =
        rw (a.state, a.block, due, e) (brought_characters due brought a.long got a.few (not_ended s.eof refl e))

    by_need : (due : Bool) → wants_input s ≡ due → Received (characters_read s got brought) r input'
    by_need true e = by_count e (eqb got 0) refl
    by_need false e = rw (a.state, a.block, e, append-nil characters) b

    pub refilled : Received (characters_read s got brought) r input'
    refilled = by_need (wants_input s) refl

-- ---- after a block is listed and written

module _ {frames : Bool} {store₀ tray₀ characters written : List ℕ} {s : RunState} {store tray input output : List ℕ}
    (b : BetweenReads frames store₀ tray₀ characters written s store tray input output) {r : RunState} {store' tray' output' : List ℕ}
    (a : AfterSteps frames (take s.length input) (snapshot s store tray output) (snapshot r store' tray' output')) (o : length output' ≡ block_length) where
  pub block_written : BetweenReads frames store₀ tray₀ characters (written ++ text_put (snapshot r store' tray' output')) (emptied r) store' tray' input output'
  block_written = record {
    stands = write_stands (steps_stand b.stands b.empty a);
    well_formed = well_formed_with a.well_formed (emptied r) output' refl a.well_formed.range (omega arith);
    places = record {
      next = omega (arith, a.within, a.same_length, length-take s.length input);
      length = omega (arith, a.same_length, b.places.length);
    };
    input_length = b.input_length;
    output_length = o;
    empty = refl;
  }

-- ---- turns in a row

abbrev last_block : List ℕ → List Turn → List ℕ
last_block input [] = input
last_block input (t ∷ ts) = last_block t.block ts

-- what holds of a run and its block of input
abbrev Between : Bool → List ℕ → List ℕ → List ℕ → List ℕ → Snapshot → List ℕ → Type 0
Between frames store₀ tray₀ characters written g input =
    BetweenReads frames store₀ tray₀ characters written g.state g.store g.tray input g.out

turns_kept : {frames : Bool} {store₀ tray₀ : List ℕ} (characters written : List ℕ) (g : Snapshot) (input : List ℕ) (ts : List Turn)
    → Between frames store₀ tray₀ characters written g input → TurnsMade frames g input ts
    → Between frames store₀ tray₀ (characters ++ all_read g ts) (written ++ all_written ts) (last_of g ts) (last_block input ts)
turns_kept characters written g input [] b m = rw (append-nil characters, append-nil written) b
turns_kept characters written g input (t ∷ ts) b (m, ms) =
    let r = refilled b m.under_way m.refill in
    let read = characters_read g.state t.got t.brought in
    rw (← append_assoc characters read, ← append_assoc written (text_put t.listed))
    (turns_kept (characters ++ read) (written ++ text_put t.listed) _ t.block ts (block_written r m.steps m.room) ms)

-- Turns from the start up to a run that is over: what they write, and then the lines of the state, is the program's text for all that they read.
pub turns_print : (prints : PrintOptions) (store tray out input : List ℕ) → length store ≡ store_length → length tray ≡ tray_length
    → length input ≡ block_length → length out ≡ block_length → let g = snapshot start store tray out in
    (ts : List Turn) → TurnsMade prints.frames g input ts → let h = last_of g ts in h.state.over ≡ true
    → program_of prints store tray (all_read g ts)
    ≡ outcome (all_written ts ++ state_lines prints h.state.decoder h.store) (end_of h.state) (system_at h)
unfolding program_of
turns_print prints store tray out input long wide i o ts m over =
    let g = snapshot start store tray out in
    let b = turns_kept [] [] g input ts (begins prints.frames store tray input out long wide i o start refl) m in
    rw (over_stands b.stands over)
